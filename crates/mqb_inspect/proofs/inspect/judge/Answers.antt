use Rattle.std.proofs.Common.{◌≡◌, ℕ, List, Option, Ok, Err, ap, sym, subst, ◌∙◌, arith}
use Rattle.mqb_capture.specs.Events.{piece_came, watched}
use Rattle.mqb_capture.specs.Grammar.{head_at, piece_at}
use Rattle.mqb_capture.specs.Verdicts.{Says}
use Rattle.mqb_capture.specs.declared.answers.BreakCause.{BreakCause}
use Rattle.mqb_capture.specs.declared.answers.Verdict.TheVariants as verdict
use Rattle.mqb_fields.specs.Reading.{Reading}
use Rattle.mqb_inspect.specs.Grammar.{seen_head, seen_piece}
use Rattle.mqb_inspect.specs.Saying.{said_behind}
use Rattle.mqb_inspect.specs.Standing.{Goes}
use Rattle.mqb_inspect.proofs.Ending.{break_said, end_said, few_more, further, less_left, up_to_first, up_to_more, within_more}
use Rattle.mqb_inspect.proofs.inspect.judge.Goals as goal

pub loop-piece-init : goal.loop-piece-init
loop-piece-init c = record {
  up_to = (
    seen_head c.in-Ok.head,
    up_to_first c.args.bytes.now (seen_head c.in-Ok.head) c.read_head.new.cursor c.in-Ok-new.inspection
        (subst (λ (r : Reading). head_at r ≡ Ok (seen_head c.in-Ok.head, c.read_head.new.cursor)) c.new-cursor.ensures c.in-Ok.ensures.read)
        c.in-Ok-new.ensures.stands c.in-Ok-new.ensures.seen,
  );
  wants = c.in-Ok-new.ensures.wants;
}

pub returns-in-Err-read_piece-clause-says : goal.returns-in-Err-read_piece-clause-says
returns-in-Err-read_piece-clause-says c = λ whole all.
    subst (Says whole) (sym (c.said_behind.ensures ∙ ap (λ (t : List ℕ). said_behind c.loop-piece.inspection t c.in-Err-read_piece.place) c.rest.ensures))
    (end_said c.args.bytes.now c.loop-piece.invariant.up_to.0 c.loop-piece.cursor c.loop-piece.inspection c.loop-piece.invariant.up_to.1 c.in-Err-read_piece.place
    (subst (λ (r : Reading). piece_at r ≡ Err c.in-Err-read_piece.place) c.fork-ahead.ensures c.in-Err-read_piece.ensures.read) whole all)

pub take_piece-requires-clause-few : goal.take_piece-requires-clause-few
take_piece-requires-clause-few c =
    let few = few_more c.args.bytes.now c.loop-piece.invariant.up_to.0 c.loop-piece.cursor c.loop-piece.inspection c.loop-piece.invariant.up_to.1 c.read_piece.new.cursor (seen_piece c.in-Ok-read_piece.piece) (subst (λ (r : Reading). piece_at r ≡ Ok (seen_piece c.in-Ok-read_piece.piece, c.read_piece.new.cursor)) c.fork-ahead.ensures c.in-Ok-read_piece.ensures.read) in
    let within = within_more c.args.bytes.now c.loop-piece.invariant.up_to.0 c.loop-piece.cursor c.loop-piece.inspection c.loop-piece.invariant.up_to.1 c.read_piece.new.cursor (seen_piece c.in-Ok-read_piece.piece) (subst (λ (r : Reading). piece_at r ≡ Ok (seen_piece c.in-Ok-read_piece.piece, c.read_piece.new.cursor)) c.fork-ahead.ensures c.in-Ok-read_piece.ensures.read) in
    let most = c.requires in
    omega (arith, few, within, most)

pub returns-in-Some-clause-says : goal.returns-in-Some-clause-says
returns-in-Some-clause-says c = λ whole all.
    subst (λ (n : ℕ). Says whole (Ok (verdict.Broken n c.in-Some.cause))) (sym c.count.ensures)
    (break_said c.args.bytes.now c.loop-piece.invariant.up_to.0 c.loop-piece.cursor c.loop-piece.inspection c.loop-piece.invariant.up_to.1 c.read_piece.new.cursor (seen_piece c.in-Ok-read_piece.piece) (subst (λ (r : Reading). piece_at r ≡ Ok (seen_piece c.in-Ok-read_piece.piece, c.read_piece.new.cursor)) c.fork-ahead.ensures c.in-Ok-read_piece.ensures.read)
    whole c.take_piece.new.self c.in-Some.cause all
    (subst (λ (o : Option BreakCause). Goes c.loop-piece.invariant.up_to.0 (piece_came (watched c.loop-piece.invariant.up_to.1.pieces) (seen_piece c.in-Ok-read_piece.piece)) c.take_piece.new.self o) c.in-Some.is
    (c.in-Ok-take_piece.ensures.goes c.loop-piece.invariant.up_to.0 (watched c.loop-piece.invariant.up_to.1.pieces) c.loop-piece.invariant.up_to.1.stands)))

pub loop-piece-smaller : goal.loop-piece-smaller
loop-piece-smaller c = less_left _ _ _
    (further c.args.bytes.now c.loop-piece.invariant.up_to.0 c.loop-piece.cursor c.loop-piece.inspection c.loop-piece.invariant.up_to.1 c.read_piece.new.cursor (seen_piece c.in-Ok-read_piece.piece) (subst (λ (r : Reading). piece_at r ≡ Ok (seen_piece c.in-Ok-read_piece.piece, c.read_piece.new.cursor)) c.fork-ahead.ensures c.in-Ok-read_piece.ensures.read))
    (within_more c.args.bytes.now c.loop-piece.invariant.up_to.0 c.loop-piece.cursor c.loop-piece.inspection c.loop-piece.invariant.up_to.1 c.read_piece.new.cursor (seen_piece c.in-Ok-read_piece.piece) (subst (λ (r : Reading). piece_at r ≡ Ok (seen_piece c.in-Ok-read_piece.piece, c.read_piece.new.cursor)) c.fork-ahead.ensures c.in-Ok-read_piece.ensures.read))

pub loop-piece-preserved : goal.loop-piece-preserved
loop-piece-preserved c = record {
  up_to = (
    c.loop-piece.invariant.up_to.0,
    up_to_more c.args.bytes.now c.loop-piece.invariant.up_to.0 c.loop-piece.cursor c.loop-piece.inspection c.loop-piece.invariant.up_to.1 c.read_piece.new.cursor (seen_piece c.in-Ok-read_piece.piece) (subst (λ (r : Reading). piece_at r ≡ Ok (seen_piece c.in-Ok-read_piece.piece, c.read_piece.new.cursor)) c.fork-ahead.ensures c.in-Ok-read_piece.ensures.read)
        c.take_piece.new.self
        (subst (λ (o : Option BreakCause). Goes c.loop-piece.invariant.up_to.0 (piece_came (watched c.loop-piece.invariant.up_to.1.pieces) (seen_piece c.in-Ok-read_piece.piece)) c.take_piece.new.self o) c.in_default-found.is
        (c.in-Ok-take_piece.ensures.goes c.loop-piece.invariant.up_to.0 (watched c.loop-piece.invariant.up_to.1.pieces) c.loop-piece.invariant.up_to.1.stands))
        c.in-Ok-take_piece.ensures.seen,
  );
  wants = c.in-Ok-take_piece.ensures.wants c.in_default-found.is;
}

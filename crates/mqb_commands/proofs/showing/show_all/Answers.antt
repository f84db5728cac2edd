use Rattle.std.proofs.Common.{◌≡◌, ◌≤◌, ◌+◌, List, ℕ, length, take, refl, ◌∙◌, arith, length-take}
use Rattle.mqb_serving.specs.declared.limits.TheConstants.{MAX_READ}
use Rattle.mqb_commands.proofs.Inputs.{ends_at_once, ends_by_stop, none_so_far, so_far_more}
use Rattle.mqb_commands.proofs.showing.show_all.Goals as goal

pub returns-in_default-clause-shown : goal.returns-in_default-clause-shown
returns-in_default-clause-shown g c = ends_at_once (g.S.Source.held c.args.input.now) (g.K.Sink.taken c.args.out.now)

pub loop-count-init : goal.loop-count-init
loop-count-init g c = record {
  so_far = none_so_far (g.S.Source.held c.args.input.now) (g.K.Sink.taken c.args.out.now) c.in-Ok.viewer.framer c.in-Ok.ensures;
  most = omega arith;
  buffer = refl;
  reads = refl;
  writes = refl;
}

-- the piece that was read
piece_length : (n size : ℕ) (buffer : List ℕ) → length buffer ≡ size → n ≤ size → n ≡ length (take n buffer)
piece_length n size buffer len within = omega (arith, length-take n buffer, len, within)

pub loop-count-preserved : goal.loop-count-preserved
loop-count-preserved g c =
    let held = g.S.Source.held in
    let taken = g.K.Sink.taken in
    let n = c.in-Ok-read_front.n in
    let small : n ≤ 4096 = omega (arith, c.in-Ok-read_front.ensures.within, c.min-room.ensures) in
    let len : length c.read_front.new.buffer ≡ 4096 = omega (arith, c.loop-count.invariant.buffer, c.read_front.auto.buffer) in
    record {
      so_far = so_far_more (held c.args.input.now) (held c.loop-count.input) (held c.read_front.new.input) (taken c.args.out.now) (taken c.loop-count.out) (taken c.show_piece.new.out)
          c.loop-count.viewer.framer c.show_piece.new.self.framer c.loop-count.count n (take n c.read_front.new.buffer) c.loop-count.invariant.so_far
          c.in-Ok-read_front.ensures.gave (piece_length n 4096 c.read_front.new.buffer len small) c.in-Ok-show_piece.ensures.shown;
      most = omega (arith, c.in-Ok-read_front.ensures.within, c.min-room.ensures, c.loop-count-test.true);
      buffer = len;
      reads = c.in-Ok-read_front.ensures.cause ∙ c.loop-count.invariant.reads;
      writes = c.in-Ok-show_piece.ensures.cause ∙ c.loop-count.invariant.writes;
    }

pub returns-in-Err-clause-shown : goal.returns-in-Err-clause-shown
returns-in-Err-clause-shown g c =
    let held = g.S.Source.held in
    let taken = g.K.Sink.taken in
    let n = c.in-Ok-read_front.n in
    let small : n ≤ 4096 = omega (arith, c.in-Ok-read_front.ensures.within, c.min-room.ensures) in
    let len : length c.read_front.new.buffer ≡ 4096 = omega (arith, c.loop-count.invariant.buffer, c.read_front.auto.buffer) in
    let most : c.loop-count.count + length (take n c.read_front.new.buffer) ≤ MAX_READ =
    omega (arith, piece_length n 4096 c.read_front.new.buffer len small, c.in-Ok-read_front.ensures.within, c.min-room.ensures, c.loop-count-test.true) in
    ends_by_stop (held c.args.input.now) (held c.loop-count.input) (held c.read_front.new.input) (taken c.args.out.now) (taken c.loop-count.out) (taken c.show_piece.new.out)
    c.loop-count.viewer.framer c.loop-count.count (take n c.read_front.new.buffer) c.in-Err.why c.loop-count.invariant.so_far
    c.in-Ok-read_front.ensures.gave most c.in-Err.ensures.shown

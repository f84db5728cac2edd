-- What is said of the bytes that were inspected.
use Rattle.std.proofs.Common.{◌≡◌, ◌+◌, ◌-◌, ◌≤◌, ◌<◌, Bool, true, false, not, cond, List, [], ◌∷◌, ◌++◌, length, take, None, Some, Result, Ok, Err, nat_le, refl, sym, ap, subst, ◌∙◌, zero-le, arith, ℕ}
use Rattle.std.specs.Prelude.{◌==◌, ◌&&◌, count_by}
use Rattle.std.proofs.lemmas.List.Sums.{fold-append}
use Rattle.mqb_capture.specs.Breaks.{BreaksAt}
use Rattle.mqb_capture.specs.Events.{Watch, no_events, piece_came, watched}
use Rattle.mqb_capture.specs.Grammar.{ArePieces, Begins, Head, Piece, head_at, piece_at}
use Rattle.mqb_capture.specs.Judged.{nothing_left}
use Rattle.mqb_capture.specs.Verdicts.{Breaks, NoHead, Says, is_heard, is_sent}
use Rattle.mqb_capture.specs.declared.answers.BreakCause.{BreakCause}
use Rattle.mqb_capture.specs.declared.answers.BreakCause.TheVariants as cause
use Rattle.mqb_capture.specs.declared.answers.InspectFault.{InspectFault}
use Rattle.mqb_capture.specs.declared.answers.InspectFault.TheVariants as fault
use Rattle.mqb_capture.specs.declared.answers.TheConstants.{MAX_CAPTURE}
use Rattle.mqb_capture.specs.declared.answers.Verdict.{Verdict}
use Rattle.mqb_capture.specs.declared.answers.Verdict.TheVariants as verdict
use Rattle.mqb_capture.proofs.Answering.{broken_said, none_breaks, tests_empty, tests_left}
use Rattle.mqb_capture.proofs.Exclusive.{looked, start}
use Rattle.mqb_capture.proofs.Reading.{head_goes, piece_goes}
use Rattle.mqb_capture.proofs.Sames.{tests_most}
use Rattle.mqb_fields.specs.Reading.{Reading, rest_of}
use Rattle.mqb_inspect.specs.Saying.{said_behind}
use Rattle.mqb_inspect.specs.Standing.{Goes, Stands, holds_rest}
use Rattle.mqb_inspect.specs.declared.standing.Inspection.{Inspection}
use Rattle.mqb_inspect.proofs.Knowing.{counted}

-- Of the bytes these pieces were inspected, and more may stand from a place on.
pub record IsUpTo (bytes : List ℕ) (h : Head) (r : Reading) (i : Inspection) : Type 0 where
  pub pieces : List Piece
  pub begins : Begins bytes h pieces r
  pub stands : Stands h (watched pieces) i
  pub same : r.bytes ≡ bytes
  pub within : r.at ≤ length bytes
  pub few : i.seen ≤ r.at

pub less_left : (n a b : ℕ) → a < b → b ≤ n → n - b < n - a
less_left n a b less most = omega (arith, less, most)

pub up_to_first : (bytes : List ℕ) (h : Head) (r : Reading) (i : Inspection) → head_at (record { bytes = bytes; at = 0 }) ≡ Ok (h, r) → Stands h no_events i → i.seen ≡ 0
    → IsUpTo bytes h r i
unfolding watched
up_to_first bytes h r i is stands seen =
    let goes = head_goes (record { bytes = bytes; at = 0 }) (h, r) zero-le is in
    record {
      pieces = [];
      begins = record { behind = r; is_head = is; are_pieces = refl };
      stands = stands;
      same = goes.bytes;
      within = omega (arith, goes.within, ap length goes.bytes);
      few = omega (arith, seen);
    }

are_more : (pieces : List Piece) (r s t : Reading) (p : Piece) → ArePieces pieces r s → piece_at s ≡ Ok (p, t) → ArePieces (pieces ++ p ∷ []) r t
are_more [] r s t p is e = (t, subst (λ (x : Reading). piece_at x ≡ Ok (p, t)) (sym is) e, refl)
are_more (q ∷ pieces) r s t p are e = (are.0, are.1, are_more pieces are.0 s t p are.2 e)

watched_more : (pieces : List Piece) (p : Piece) → watched (pieces ++ p ∷ []) ≡ piece_came (watched pieces) p
unfolding watched
watched_more pieces p = fold-append piece_came no_events pieces (p ∷ [])

module _ (bytes : List ℕ) (h : Head) (r : Reading) (i : Inspection) (u : IsUpTo bytes h r i) where
  is_in : r.at ≤ length r.bytes
  is_in = omega (arith, u.within, ap length u.same)

  -- a piece stands there
  module _ (s : Reading) (p : Piece) (is : piece_at r ≡ Ok (p, s)) where
    begins_more : Begins bytes h (u.pieces ++ p ∷ []) s
    begins_more = record { behind = u.begins.behind; is_head = u.begins.is_head; are_pieces = are_more u.pieces u.begins.behind r s p u.begins.are_pieces is }

    -- there is room to count its bytes
    pub few_more : i.seen + length p.bytes ≤ s.at
    few_more = let g = piece_goes r (p, s) is_in is in omega (arith, u.few, g.long, g.goes.at)

    pub within_more : s.at ≤ length bytes
    within_more = let g = piece_goes r (p, s) is_in is in omega (arith, g.goes.within, ap length g.goes.bytes, ap length u.same)

    pub further : r.at < s.at
    further = let g = piece_goes r (p, s) is_in is in omega (arith, g.some, g.goes.at)

    pub up_to_more : (j : Inspection) → Goes h (piece_came (watched u.pieces) p) j None → j.seen ≤ i.seen + length p.bytes → IsUpTo bytes h s j
    up_to_more j goes seen = record {
      pieces = u.pieces ++ p ∷ [];
      begins = begins_more;
      stands = subst (λ (v : Watch). Stands h v j) (sym (watched_more u.pieces p)) goes;
      same = (piece_goes r (p, s) is_in is).goes.bytes ∙ u.same;
      within = within_more;
      few = omega (arith, seen, few_more);
    }

    breaks_at : (j : Inspection) (why : BreakCause) → Goes h (piece_came (watched u.pieces) p) j (Some why) → BreaksAt h (watched (u.pieces ++ p ∷ [])).events (j.sent_count + j.heard_count) why
    breaks_at j why stops = record {
      before = stops.before;
      event = stops.event;
      behind = stops.behind;
      is = ap (λ (v : Watch). v.events) (watched_more u.pieces p) ∙ stops.is;
      at = stops.count;
      lawful = stops.lawful;
      cause = stops.cause;
    }

    pub break_said : (whole : List ℕ) (j : Inspection) (why : BreakCause) → take MAX_CAPTURE whole ≡ bytes → Goes h (piece_came (watched u.pieces) p) j (Some why)
        → Says whole (Ok (verdict.Broken (j.sent_count + j.heard_count) why))
    break_said whole j why all stops =
        (broken_said whole (j.sent_count + j.heard_count) why
        (subst (λ (t : List ℕ). Breaks t (j.sent_count + j.heard_count) why) (sym all)
        (record { head = h; pieces = u.pieces ++ p ∷ []; end = s; begins = begins_more; breaks = breaks_at j why stops }))).said

  -- no piece stands there
  module _ (place : ℕ) (is : piece_at r ≡ Err place) where
    turned : {X : Type 0} (b : Bool) (x y : X) → cond b y x ≡ cond (not b) x y
    turned true x y = refl
    turned false x y = refl

    holds_is : not (nothing_left (watched u.pieces)) ≡ holds_rest i
    holds_is =
        ap (λ (t : List ℕ). not (length t == 0 && length (watched u.pieces).heard == 0)) (sym u.stands.sent)
        ∙ ap (λ (t : List ℕ). not (length i.sent.held == 0 && length t == 0)) (sym u.stands.heard)

    abbrev cut_at : ℕ → Result Verdict InspectFault
    cut_at n = Ok (verdict.Broken n cause.Cut)

    abbrev lawful_of : ℕ → ℕ → Result Verdict InspectFault
    lawful_of m n = Ok (verdict.Lawful m n)

    behind_is : cond (nothing_left (watched u.pieces)) (lawful_of (count_by is_sent (watched u.pieces).events) (count_by is_heard (watched u.pieces).events)) (cut_at (length (watched u.pieces).events))
        ≡ cond (holds_rest i) (cut_at (i.sent_count + i.heard_count)) (lawful_of i.sent_count i.heard_count)
    behind_is =
        let k = u.stands.knows in
        turned (nothing_left (watched u.pieces)) (cut_at (length (watched u.pieces).events)) (lawful_of (count_by is_sent (watched u.pieces).events) (count_by is_heard (watched u.pieces).events))
        ∙ ap (λ (b : Bool). cond b (cut_at (length (watched u.pieces).events)) (lawful_of (count_by is_sent (watched u.pieces).events) (count_by is_heard (watched u.pieces).events))) holds_is
        ∙ ap (λ (n : ℕ). cond (holds_rest i) (cut_at n) (lawful_of (count_by is_sent (watched u.pieces).events) (count_by is_heard (watched u.pieces).events))) (sym (counted h (watched u.pieces).events i k))
        ∙ ap (λ (n : ℕ). cond (holds_rest i) (cut_at (i.sent_count + i.heard_count)) (lawful_of n (count_by is_heard (watched u.pieces).events))) (sym k.sent_count)
        ∙ ap (λ (n : ℕ). cond (holds_rest i) (cut_at (i.sent_count + i.heard_count)) (lawful_of i.sent_count n)) (sym k.heard_count)

    said_is : (whole : List ℕ) → take MAX_CAPTURE whole ≡ bytes → Says whole (said_behind i (rest_of r) place)
    said_is whole all =
        let head : head_at (start (looked whole)) ≡ Ok (h, u.begins.behind) = subst (λ (t : List ℕ). head_at (start t) ≡ Ok (h, u.begins.behind)) (sym all) u.begins.is_head in
        let goes = head_goes (record { bytes = bytes; at = 0 }) (h, u.begins.behind) zero-le u.begins.is_head in
        let answer = none_breaks whole h u.begins.behind head (record { pieces = u.pieces; end = r; stop = place })
        (record { are = u.begins.are_pieces; stops = is; bytes = u.same ∙ sym goes.bytes; within = is_in }) (goes.bytes ∙ sym all)
        u.stands.knows.lawful (nat_le MAX_CAPTURE place) (length (rest_of r) == 0) (nothing_left (watched u.pieces))
        (tests_most MAX_CAPTURE place) (tests_empty (rest_of r)) (tests_left (watched u.pieces)) in
        subst (Says whole)
        (ap (λ (x : Result Verdict InspectFault). cond (nat_le MAX_CAPTURE place) (Err fault.TooMuch) (cond (not (length (rest_of r) == 0)) (Err (fault.Capture place)) x)) behind_is)
        answer.said

pub end_said : (bytes : List ℕ) (h : Head) (r : Reading) (i : Inspection) (u : IsUpTo bytes h r i) (place : ℕ) → piece_at r ≡ Err place → (whole : List ℕ) → take MAX_CAPTURE whole ≡ bytes
    → Says whole (said_behind i (rest_of r) place)
end_said bytes h r i u place is whole all = said_is bytes h r i u place is whole all

-- no head stands there
pub no_head_said : (bytes : List ℕ) (at : ℕ) → head_at (record { bytes = bytes; at = 0 }) ≡ Err at → (whole : List ℕ) → take MAX_CAPTURE whole ≡ bytes → Says whole (Err (fault.Capture at))
no_head_said bytes at is whole all = NoHead (subst (λ (t : List ℕ). head_at (record { bytes = t; at = 0 }) ≡ Err at) (sym all) is)

-- What was shown of an input so far.
use Rattle.std.proofs.Common.{◌≡◌, ◌≤◌, ◌<◌, ◌+◌, ℕ, List, [], ◌∷◌, ◌++◌, length, Option, None, Some, Result, Err, refl, sym, ap, subst, ◌∙◌, arith, length-append, append_assoc, append-nil, zero-add}
use Rattle.std.specs.Option.{option_map}
use Rattle.mqb_outside.specs.Told.{Gave, Took}
use Rattle.mqb_serving.specs.declared.faults.PeerFault.TheVariants as peer
use Rattle.mqb_serving.specs.declared.limits.TheConstants.{MAX_READ}
use Rattle.mqb_stream.specs.Cutting.{joined}
use Rattle.mqb_stream.specs.Framing.{Framing, next, wants_more}
use Rattle.mqb_commands.specs.lemmas.Taking.{front_none}
use Rattle.mqb_commands.specs.declared.shown_faults.ShowFault.{ShowFault}
use Rattle.mqb_commands.specs.declared.shown_faults.ShowFault.TheVariants as fault
use Rattle.mqb_commands.specs.Cuts.{BeginsBad, IsCut, IsUnfinished, held_at}
use Rattle.mqb_commands.specs.Lines.{lines_from}
use Rattle.mqb_commands.specs.Shown.{IsAtEnd, IsWithin}
use Rattle.mqb_commands.specs.Showing.{EndsWith, ShowsAll}
use Rattle.mqb_commands.specs.Viewing.{GoesOn, IsOpen, Stops, StopsBehind, end_of}
use Rattle.mqb_commands.proofs.Going.{goes_count, goes_framer, goes_nowhere, goes_then, more_goes, open_empty, stops_then}

-- What a source gave.

pub gave_none : (h : Option (List ℕ)) → Gave h h []
gave_none None = refl
gave_none (Some t) = refl

pub gave_more : (h m l : Option (List ℕ)) (x y : List ℕ) → Gave h m x → Gave m l y → Gave h l (x ++ y)
gave_more h m None x y first second = first ∙ ap (λ (o : Option (List ℕ)). option_map (λ t. x ++ t) o) second
gave_more h m (Some t) x y first second =
    first ∙ ap (λ (o : Option (List ℕ)). option_map (λ t. x ++ t) o) second ∙ ap (λ (z : List ℕ). Some z) (sym (append_assoc x y t))

-- The viewer is here.
pub record SoFar (held left before after : Option (List ℕ)) (f : Framing) (count : ℕ) : Type 0 where
  pub bytes : List ℕ
  pub gave : Gave held left bytes
  pub goes : GoesOn (held_at 0 []) f bytes [] before after
  pub wants : IsOpen f
  pub same : count ≡ length bytes

pub none_so_far : (held before : Option (List ℕ)) (f : Framing) → f ≡ held_at 0 [] → SoFar held held before before f 0
none_so_far held before f is = record {
  bytes = [];
  gave = gave_none held;
  goes = subst (λ (g : Framing). GoesOn (held_at 0 []) g [] [] before before) (sym is) (goes_nowhere (held_at 0 []) [] before refl);
  wants = subst IsOpen (sym is) (open_empty 0);
  same = refl;
}

-- a piece was shown
pub so_far_more : (held left later before after then : Option (List ℕ)) (f g : Framing) (count n : ℕ) (piece : List ℕ) → SoFar held left before after f count
    → Gave left later piece → n ≡ length piece → GoesOn f g piece [] after then × IsOpen g → SoFar held later before then g (count + n)
so_far_more held left later before after then f g count n piece so gave len shown = record {
  bytes = so.bytes ++ piece;
  gave = gave_more held left later so.bytes piece so.gave gave;
  goes = goes_then (held_at 0 []) f g (so.bytes ++ piece) piece [] before after then (more_goes (held_at 0 []) f so.bytes piece before after so.goes) shown.0;
  wants = shown.1;
  same = omega (arith, so.same, len, length-append so.bytes piece);
}

-- How it ends.

-- what is held is the rest
record IsHeld (f : Framing) (bytes : List ℕ) (before after : Option (List ℕ)) : Type 0 where
  pub packets : List (List ℕ)
  pub cut : IsCut bytes packets f.held
  pub wrote : Took before after (lines_from 0 packets)
  pub place : f ≡ held_at (length (joined packets)) f.held

unfinished : (f : Framing) (place : ℕ) → f ≡ held_at place f.held → IsOpen f → IsUnfinished place f.held
unfinished f place is wants = ap (λ (g : Framing). wants_more (next g)) (sym is) ∙ wants

by_end : (place : ℕ) (held lines : List ℕ) (left before after : Option (List ℕ)) (r : Result (Unit {0}) ShowFault) → r ≡ end_of held → IsUnfinished place held → IsAtEnd left
    → IsWithin place held → Took before after lines → EndsWith place held lines left before after r
by_end place [] lines left before after r is open_ end within took = subst (EndsWith place [] lines left before after) (sym is) ((refl, end, within), took)
by_end place (b ∷ held) lines left before after r is open_ end within took =
    let some : 0 < length (b ∷ held) = omega arith in
    subst (EndsWith place (b ∷ held) lines left before after) (sym is) ((some, open_, end, within), took)

by_stop : (place other : ℕ) (rest lines : List ℕ) (left before after : Option (List ℕ)) (why : ShowFault) → place ≡ other → StopsBehind place rest lines before after why
    → EndsWith other rest lines left before after (Err why)
by_stop place other rest lines left before after (fault.Peer (peer.Bad at why)) same stops =
    ((stops.0 ∙ same, subst (λ (p : ℕ). BeginsBad p rest why) same stops.1), stops.2)
by_stop place other rest lines left before after fault.WriteFault same stops = stops
by_stop place other rest lines left before after fault.Memory same stops = stops
by_stop place other rest lines left before after why same stops = absurd stops

pub ends_by_stop : (held left later before after then : Option (List ℕ)) (f : Framing) (count : ℕ) (piece : List ℕ) (why : ShowFault) → SoFar held left before after f count
    → Gave left later piece → count + length piece ≤ MAX_READ → Stops f piece after then why → ShowsAll held later before then (Err why)
ends_by_stop held left later before after then f count piece why so gave most stops =
    let all = stops_then (held_at 0 []) f (so.bytes ++ piece) piece before after then why (more_goes (held_at 0 []) f so.bytes piece before after so.goes) stops in
    record {
      bytes = so.bytes ++ piece;
      most = omega (arith, most, so.same, length-append so.bytes piece);
      packets = all.packets;
      rest = all.rest;
      gave = gave_more held left later so.bytes piece so.gave gave;
      cut = all.cut;
      ends = by_stop (0 + length (joined all.packets)) (length (joined all.packets)) all.rest (lines_from 0 all.packets) later before then why
          (zero-add (length (joined all.packets))) all.stops;
    }

pub ends_at_once : (held before : Option (List ℕ)) → ShowsAll held held before before (Err fault.Memory)
ends_at_once held before = record {
  bytes = [];
  most = omega arith;
  packets = [];
  rest = [];
  gave = gave_none held;
  cut = record { whole = refl; each = tt };
  ends = front_none before [];
}

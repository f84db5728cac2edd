-- Marks that rise move no message: what was chosen stands where it stood.
use Rattle.std.proofs.Common.{zero, suc, refl, sym, ap, subst, ◌∙◌}
use Rattle.std.proofs.lemmas.List.Elements.{All-weaker}
use Rattle.std.proofs.lemmas.Option.{none-some, same_Some}
use Rattle.std.specs.List.{cons_option}
use Rattle.std.specs.Option.{option_map_or}
use Rattle.std.specs.Prelude.{[], ◌∷◌, ◌≡◌, All, Bool, IsSomeAnd, List, None, Option, Some, fold, option_and_then, option_map, position, slice_get, slice_set, ℕ}
use Rattle.mqb_base.specs.declared.heads.SessionHead.{SessionHead}
use Rattle.mqb_base.specs.declared.message.Message.{Message}
use Rattle.mqb_entries.specs.declared.members.Mark.{Mark}
use Rattle.mqb_orders.specs.Rows.{Row}
use Rattle.mqb_plain.specs.Lists.{messages_of}
use Rattle.mqb_plain.specs.Plain.{outgoing_in}
use Rattle.mqb_choosing.specs.Choices.{IsSendable, IsThere, coming_from, message_at, shown_in}
use Rattle.mqb_choosing.specs.declared.choice.Choice.{Choice}
use Rattle.mqb_choosing.specs.declared.choice.Origin.{Origin}
use Rattle.mqb_choosing.specs.declared.choice.Origin.TheVariants.{Kept, Owed, Waiting}
use Rattle.mqb_model.specs.Lists.{with_changed, with_first_changed}
use Rattle.mqb_model.specs.calls.pump.Candidates.{Candidate}
use Rattle.mqb_model.specs.records.Offered.{mark_raised, with_offered}
use Rattle.mqb_model.specs.state.Rows.{has_ordinal}
use Rattle.mqb_model.specs.state.State.{State}
use Rattle.mqb_manager.proofs.Offered.{rows_raised}

-- What is seen of a row whatever was offered of it, is seen of it once its mark rose.
module _ {Y : Type 0} (f : Row → Option Y) (number : ℕ) (stays : (r : Row) → f (with_offered number r) ≡ f r) where
  seen_set : (rows : List Row) (i k : ℕ) (row : Row) → slice_get rows i ≡ Some row
      → option_and_then f (slice_get (slice_set rows i (with_offered number row)) k) ≡ option_and_then f (slice_get rows k)
  seen_set [] i k row is = absurd (none-some row is)
  seen_set (r ∷ rows) zero zero row is = stays row ∙ ap f (sym (same_Some r row is))
  seen_set (r ∷ rows) zero (suc k) row is = refl
  seen_set (r ∷ rows) (suc i) zero row is = refl
  seen_set (r ∷ rows) (suc i) (suc k) row is = seen_set rows i k row is

  seen_changed : (rows : List Row) (i k : ℕ) → option_and_then f (slice_get (with_changed (with_offered number) rows i) k) ≡ option_and_then f (slice_get rows k)
  seen_changed rows i k = at (slice_get rows i) refl
    where
      at : (o : Option Row) → slice_get rows i ≡ o
          → option_and_then f (slice_get (option_map_or (λ r. slice_set rows i (with_offered number r)) o rows) k) ≡ option_and_then f (slice_get rows k)
      at None is = refl
      at (Some row) is = seen_set rows i k row is

  pub seen_first : (passes : Row → Bool) (rows : List Row) (k : ℕ)
      → option_and_then f (slice_get (with_first_changed (with_offered number) passes rows) k) ≡ option_and_then f (slice_get rows k)
  seen_first passes rows k = at (position passes rows)
    where
      at : (o : Option ℕ) → option_and_then f (slice_get (option_map_or (with_changed (with_offered number) rows) o rows) k) ≡ option_and_then f (slice_get rows k)
      at None = refl
      at (Some i) = seen_changed rows i k

seen_raised : {Y : Type 0} (f : Row → Option Y) → ((number : ℕ) (r : Row) → f (with_offered number r) ≡ f r) → (s : State) (marks : List Mark) (k : ℕ)
    → option_and_then f (slice_get (fold mark_raised s marks).outs k) ≡ option_and_then f (slice_get s.outs k)
seen_raised f stays s [] k = refl
seen_raised f stays s (mark ∷ marks) k =
    seen_raised f stays (mark_raised s mark) marks k ∙ seen_first f mark.number (stays mark.number) (has_ordinal mark.ordinal) s.outs k

module _ (s : State) (marks : List Mark) where
  abbrev t : State
  t = fold mark_raised s marks

  message_stays : (o : Origin) → message_at t o ≡ message_at s o
  message_stays (Owed row m) = refl
  message_stays (Waiting peer lane index) =
      ap (λ (x : State). option_and_then (λ p. slice_get (messages_of (outgoing_in lane p)) index) (slice_get x.plain peer)) (rows_raised s marks).state
  message_stays (Kept row index tx) = seen_raised (λ r. option_map (λ k. k.message) (slice_get r.kept index)) (λ number r. refl) s marks row

  pub all_shown_stay : (choices : List Choice) → shown_in t choices ≡ shown_in s choices
  all_shown_stay [] = refl
  all_shown_stay (c ∷ choices) =
      ap (λ (o : Option Message). cons_option (option_map (λ m. (coming_from c.origin m, c.head)) o) (shown_in t choices)) (message_stays c.origin)
      ∙ ap (λ (given : List (Candidate × SessionHead)). cons_option (option_map (λ m. (coming_from c.origin m, c.head)) (message_at s c.origin)) given) (all_shown_stay choices)

  there_stays : (c : Choice) → IsThere s c → IsThere t c
  there_stays c there = subst (λ (o : Option Message). IsSomeAnd {T = Candidate × SessionHead} (option_map (λ m. (coming_from c.origin m, c.head)) o) (λ given. IsSendable given.0))
      (sym (message_stays c.origin)) there

  pub all_there_stay : (choices : List Choice) → All (IsThere s) choices → All (IsThere t) choices
  all_there_stay choices there = All-weaker (IsThere s) (IsThere t) there_stays choices there

-- A final acknowledgement changes no row but one that leads to the manager from which it came.
use Rattle.std.proofs.Common.{refl, ap, sym, subst, ◌∙◌, arith, inl, inr}
use Rattle.std.proofs.lemmas.Bool.Decides.{nat_tests}
use Rattle.std.specs.List.{list_any}
use Rattle.std.specs.Option.{option_map_or}
use Rattle.std.specs.Prelude.{◌==◌, ◌≡◌, ◌≤◌, ◌⊎◌, List, None, Option, Some, find, nat_le, option_and_then, slice_get, slice_set, true, ℕ}
use Rattle.mqb_base.specs.declared.message.Message.{Message}
use Rattle.mqb_model.specs.records.Finals.{dead_for, final_stored, finished_at, finished_by, finished_row, has_named, index_finished, is_offered_as, kept_named, names_kept, with_finished}
use Rattle.mqb_model.specs.state.Resolving.{peer_known}
use Rattle.mqb_model.specs.state.State.{State}
use Rattle.mqb_orders.specs.Rows.{Row}
use Rattle.mqb_orders.specs.declared.kept.Kept.{Kept}
use Rattle.mqb_history.specs.Finished.{FinalsHaveReasons, MayBeFinished}
use Rattle.mqb_history.proofs.Applying.{dead_rows}
use Rattle.mqb_history.proofs.Believing.{same_id_is}
use Rattle.mqb_history.proofs.Connections.{found_passes}
use Rattle.mqb_history.proofs.Deciding.{first_is_found}
use Rattle.mqb_history.proofs.Lists.{equal_numbers, set_get, some_is, split_and}
use Rattle.mqb_history.proofs.Sparing.{found_kept}

module _ (s : State) (m : Message) (k : ℕ) (row : Row) (there : slice_get s.outs k ≡ Some row) where
  -- the row at the place is as it was, or may be finished
  abbrev Answers : Option Row → Type 0
  Answers o = (o ≡ Some row) ⊎ MayBeFinished s m row

  -- a row that is found leads to the peer
  leads : (peer index : ℕ) (x : Row) → index_finished s peer m ≡ Some index → slice_get s.outs index ≡ Some x → x.peer ≡ peer
  leads peer index x e found = equal_numbers x.peer peer (split_and (x.peer == peer) (list_any (names_kept m.correlation) x.kept) passes).0
    where
      passes : has_named peer m.correlation x ≡ true
      passes = found_passes (has_named peer m.correlation) s.outs x
          (sym (first_is_found (has_named peer m.correlation) s.outs) ∙ ap (λ (o : Option ℕ). option_and_then (slice_get s.outs) o) e ∙ found)

  within : (a b : ℕ) → nat_le a b ≡ true → a ≤ b
  within a b e = grind (arith, nat_tests)

  may_finish : (kept : Kept) → peer_known s m.id.qm ≡ Some row.peer → kept_named m.correlation row ≡ Some kept → MayBeFinished s m row
  may_finish kept known named = record {
    leads = known;
    kept = kept;
    inside = found_kept (is_offered_as m.correlation row) row.kept kept found;
    names = same_id_is kept.message.id m.correlation tests.0;
    offered = within kept.number row.offered tests.1;
  }
    where
      found : find (is_offered_as m.correlation row) row.kept ≡ Some kept
      found = sym (first_is_found (is_offered_as m.correlation row) row.kept) ∙ named

      tests : (names_kept m.correlation kept ≡ true) × (nat_le kept.number row.offered ≡ true)
      tests = split_and (names_kept m.correlation kept) (nat_le kept.number row.offered) (found_passes (is_offered_as m.correlation row) row.kept kept found)

  reasons : Answers (slice_get (final_stored s m).state.outs k)
  reasons = at (peer_known s m.id.qm) refl
    where
      done : ℕ → Kept → State
      done index kept = dead_for m.class (with_finished m.correlation s index kept) kept.message

      of_kept : (peer index : ℕ) (x : Row) (kept : Kept) → peer_known s m.id.qm ≡ Some peer → index_finished s peer m ≡ Some index → slice_get s.outs index ≡ Some x
          → kept_named m.correlation x ≡ Some kept → Answers (slice_get (done index kept).outs k)
      of_kept peer index x kept known e found named = subst (λ rows. Answers (slice_get rows k)) (sym (dead_rows m.class (with_finished m.correlation s index kept) kept.message).outs)
          (subst (λ o. Answers (slice_get (option_map_or set_row o s.outs) k)) (sym found)
          (set_get Answers s.outs index k (finished_row m.correlation kept.number x) (inl there) (λ same less. inr (itself (some_is x row (sym found ∙ ap (slice_get s.outs) same ∙ there))))))
        where
          set_row : Row → List Row
          set_row y = slice_set s.outs index (finished_row m.correlation kept.number y)

          itself : x ≡ row → MayBeFinished s m row
          itself same = may_finish kept (known ∙ ap (λ n. Some n) (sym (leads peer index x e found) ∙ ap (λ (y : Row). y.peer) same))
              (subst (λ (y : Row). kept_named m.correlation y ≡ Some kept) same named)

      of_row : (peer index : ℕ) (x : Row) → peer_known s m.id.qm ≡ Some peer → index_finished s peer m ≡ Some index → slice_get s.outs index ≡ Some x
          → (o : Option Kept) → kept_named m.correlation x ≡ o → Answers (slice_get (option_map_or (done index) o s).outs k)
      of_row peer index x known e found None named = inl there
      of_row peer index x known e found (Some kept) named = of_kept peer index x kept known e found named

      at_index : (peer index : ℕ) → peer_known s m.id.qm ≡ Some peer → index_finished s peer m ≡ Some index → (o : Option Row) → slice_get s.outs index ≡ o
          → Answers (slice_get (option_map_or (done index) (option_and_then (kept_named m.correlation) o) s).outs k)
      at_index peer index known e None found = inl there
      at_index peer index known e (Some x) found = of_row peer index x known e found (kept_named m.correlation x) refl

      by : (peer : ℕ) → peer_known s m.id.qm ≡ Some peer → (o : Option ℕ) → index_finished s peer m ≡ o → Answers (slice_get (option_map_or (finished_at s m) o s).outs k)
      by peer known None e = inl there
      by peer known (Some index) e = at_index peer index known e (slice_get s.outs index) refl

      at : (o : Option ℕ) → peer_known s m.id.qm ≡ o → Answers (slice_get (option_map_or (λ peer. finished_by s peer m) o s).outs k)
      at None known = inl there
      at (Some peer) known = by peer known (index_finished s peer m) refl

pub finals_have_reasons : FinalsHaveReasons
finals_have_reasons s m k row there = reasons s m k row there

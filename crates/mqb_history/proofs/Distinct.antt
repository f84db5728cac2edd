-- No two incoming rows of a manager are of one channel.
use Rattle.std.proofs.Common.{refl, ap, sym, subst, ◌∙◌, inl, inr}
use Rattle.std.specs.List.{AllByRecursion}
use Rattle.std.specs.Prelude.{[], ◌∷◌, ◌≡◌, ◌⊎◌, Bool, List, Some, cond, false, find, true, ℕ}
use Rattle.mqb_base.specs.Same.{same_guid, same_name}
use Rattle.mqb_exactly_once.specs.Words.{In}
use Rattle.mqb_exactly_once.specs.World.{Channel}
use Rattle.mqb_model.specs.records.Applying.{apply}
use Rattle.mqb_model.specs.records.Record.{Record}
use Rattle.mqb_model.specs.records.Record as entry
use Rattle.mqb_model.specs.state.Rows.{is_row_of}
use Rattle.mqb_model.specs.state.State.{State, empty}
use Rattle.mqb_network.specs.Courses.{Written}
use Rattle.mqb_orders.specs.declared.rows.InRow.{InRow}
use Rattle.mqb_packet.specs.declared.packet.UserPacket.{UserPacket}
use Rattle.mqb_history.specs.Made.{IsMade, IsNext}
use Rattle.mqb_history.proofs.Deciding.{joined_ins, put, set_is_put}
use Rattle.mqb_history.proofs.Inside.{DecidesNothing, applied_ins, decided_ins}
use Rattle.mqb_history.proofs.Lists.{all_weaker, join_and, split_and, true_not_false}
use Rattle.mqb_history.proofs.Names.{same_guid_is, same_guid_refl, same_name_is, same_name_refl}
use Rattle.mqb_history.proofs.Written.{IsByRecords}

abbrev channel_at : InRow → Channel
channel_at row = record { source = row.source; destination = row.destination }

-- rows of channels of their own
abbrev AreDistinct : List InRow → Type 0
AreDistinct [] = Unit {0}
AreDistinct (row ∷ rows) = AllByRecursion (λ x. channel_at x ≡ channel_at row → ⊥) rows × AreDistinct rows

abbrev finds : InRow → InRow → Bool
finds row = is_row_of row.source row.destination

found_channel : (a b : InRow) → finds a b ≡ true → channel_at b ≡ channel_at a
found_channel a b e = let both = split_and (same_guid b.source a.source) (same_name b.destination a.destination) e in
    ap (λ g. record { source = g; destination = b.destination }) (same_guid_is b.source a.source both.0)
    ∙ ap (λ d. record { source = a.source; destination = d }) (same_name_is b.destination a.destination both.1)

found_self : (a : InRow) → finds a a ≡ true
found_self a = join_and (same_guid a.source a.source) (same_name a.destination a.destination) (same_guid_refl a.source) (same_name_refl a.destination)

not_found : (a b : InRow) → finds a b ≡ false → channel_at a ≡ channel_at b → ⊥
not_found a b e same = true_not_false (finds a b) (subst (λ (c : Channel). is_row_of c.source c.destination b ≡ true) (sym same) (found_self b)) e

put_all : (P : InRow → Type 0) (test : InRow → Bool) (new : InRow) (rows : List InRow) → P new → AllByRecursion P rows → AllByRecursion P (put test new rows)
put_all P test new [] p h = (p, tt)
put_all P test new (x ∷ rows) p h = at (test x) (put_all P test new rows p h.1)
  where
    at : (b : Bool) → AllByRecursion P (put test new rows) → AllByRecursion P (cond b (new ∷ rows) (x ∷ put test new rows))
    at true rest = (p, h.1)
    at false rest = (h.0, rest)

put_distinct : (new : InRow) (rows : List InRow) → AreDistinct rows → AreDistinct (put (finds new) new rows)
put_distinct new [] h = (tt, tt)
put_distinct new (x ∷ rows) h = at (finds new x) refl (put_distinct new rows h.1)
  where
    at : (b : Bool) → finds new x ≡ b → AreDistinct (put (finds new) new rows) → AreDistinct (cond b (new ∷ rows) (x ∷ put (finds new) new rows))
    at true e rest = (all_weaker (λ y. channel_at y ≡ channel_at x → ⊥) (λ y. channel_at y ≡ channel_at new → ⊥) (λ y apart f. apart (f ∙ sym (found_channel new x e))) rows h.0, h.1)
    at false e rest = (put_all (λ y. channel_at y ≡ channel_at x → ⊥) (finds new) new rows (λ f. not_found new x e f) h.0, rest)

-- each is the one that is found
pub found_itself : (rows : List InRow) (row : InRow) → AreDistinct rows → In row rows → find (finds row) rows ≡ Some row
found_itself [] row h inside = absurd inside
found_itself (x ∷ rows) row h inside = at (finds row x) refl inside (λ j. found_itself rows row h.1 j)
  where
    apart : (xs : List InRow) → AllByRecursion (λ y. channel_at y ≡ channel_at x → ⊥) xs → In row xs → channel_at row ≡ channel_at x → ⊥
    apart [] g i = absurd i
    apart (y ∷ ys) g (inl e) = subst (λ z. channel_at z ≡ channel_at x → ⊥) e g.0
    apart (y ∷ ys) g (inr i) = apart ys g.1 i

    at : (b : Bool) → finds row x ≡ b → (x ≡ row) ⊎ In row rows → (In row rows → find (finds row) rows ≡ Some row) → cond b (Some x) (find (finds row) rows) ≡ Some row
    at true e (inl same) rest = ap (λ y. Some y) same
    at true e (inr i) rest = absurd (apart rows h.0 i (sym (found_channel row x e)))
    at false e (inl same) rest = absurd (true_not_false (finds row x) (subst (λ y. finds row y ≡ true) (sym same) (found_self row)) e)
    at false e (inr i) rest = rest i

-- Records.

abbrev pub AreDistinctIn : State → List Written → Type 0
AreDistinctIn s ws = AreDistinct s.ins

decided_distinct : (s : State) (now : ℕ) (numbers : List ℕ) (p : UserPacket) → IsNext s.ins p → AreDistinct s.ins → AreDistinct (apply s (entry.Arrived now numbers (entry.Decided p))).ins
decided_distinct s now numbers p next h = subst AreDistinct (sym (decided_ins s now numbers p next.head next.there ∙ set_is_put (is_row_of p.message.id.qm p.message.destination) _ s.ins)) (put_distinct _ s.ins h)

quiet_distinct : (s : State) (r : Record) → DecidesNothing r → AreDistinct s.ins → AreDistinct (apply s r).ins
quiet_distinct s r nothing h = subst AreDistinct (sym (applied_ins s r nothing)) h

record_distinct : (s : State) (r : Record) → IsMade s r → AreDistinct s.ins → AreDistinct (apply s r).ins
record_distinct s (entry.Peer peer) made h = absurd made
record_distinct s (entry.Arrived now numbers (entry.Decided p)) made h = decided_distinct s now numbers p made h
record_distinct s r made h = quiet_distinct s r tt h

pub distinct_by_records : IsByRecords AreDistinctIn
distinct_by_records = record {
  starts = λ own peers. subst AreDistinct (sym (joined_ins (empty own) peers)) tt;
  quiet = λ a b ws same h. subst AreDistinct (sym same.ins) h;
  grows = λ i s r ws made h. record_distinct s r made h;
}

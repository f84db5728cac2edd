-- What expired is decided nowhere.
use Rattle.std.proofs.Common.{refl, ap, sym, subst, ◌∙◌, arith, inl, inr}
use Rattle.std.specs.List.{cons_option}
use Rattle.std.specs.Prelude.{[], ◌++◌, ◌==◌, ◌∷◌, ◌≡◌, ◌⊎◌, Bool, IfSome, List, None, Option, Some, slice_get, unwrap_or, true, false, ℕ}
use Rattle.mqb_base.specs.Same.{same_guid, same_name}
use Rattle.mqb_base.specs.declared.ids.Guid.{Guid}
use Rattle.mqb_base.specs.declared.ids.Identity.{Identity}
use Rattle.mqb_exactly_once.specs.Words.{In}
use Rattle.mqb_exactly_once.specs.World.{Channel, Commitment, Position}
use Rattle.mqb_model.specs.managers.Manager.{Manager}
use Rattle.mqb_model.specs.records.Applying.{lines_of}
use Rattle.mqb_network.specs.Courses.{Course, Written}
use Rattle.mqb_network.specs.Doubts.{settled}
use Rattle.mqb_network.specs.Laws.{AreApart, lines_written}
use Rattle.mqb_network.specs.Network.{manager_at, nobody}
use Rattle.mqb_network.specs.Runs.{after_run}
use Rattle.mqb_history.specs.Carried.{AreDecidedTruly, ComesFromItsSource}
use Rattle.mqb_history.specs.Committed.{commitments}
use Rattle.mqb_history.specs.Decided.{decided_in, decisions, written_of}
use Rattle.mqb_history.specs.Expired.{AreOffersKept, expiries_told, expiry_told}
use Rattle.mqb_history.specs.Laws.{AlwaysUndecided}
use Rattle.mqb_history.specs.Offered.{AreUndecided, IsOffered}
use Rattle.mqb_history.specs.Orderly.{IsItself, IsOrderly}
use Rattle.mqb_history.proofs.Carrying.{always_decided_truly, lines_append}
use Rattle.mqb_history.proofs.Committing.{all_in, in_split}
use Rattle.mqb_history.proofs.Knowing.{apart_guids}
use Rattle.mqb_history.proofs.Lines.{told_append}
use Rattle.mqb_history.proofs.Lists.{apart_numbers, equal_numbers, get_within, split_and, true_not_false, within_get}
use Rattle.mqb_history.proofs.Marked.{AreMarked, marked_by_records}
use Rattle.mqb_history.proofs.Names.{same_guid_is, same_guid_refl}
use Rattle.mqb_history.proofs.Offering.{always_offers_kept}
use Rattle.mqb_history.proofs.Outside.{filtered_in}
use Rattle.mqb_history.proofs.Rows.{AreRowed, HasRow}
use Rattle.mqb_history.proofs.Runs.{always_kept}
use Rattle.mqb_history.proofs.Skipping.{Decides, decides, sourced}
use Rattle.mqb_history.proofs.Sparing.{expired_committed, expiry_line}
use Rattle.mqb_history.proofs.Written.{IsOrderlyWith, begins_with, by_records}

-- A manager that committed anything is one of those that are known, and no other has its identifier.

pub record IsKnown (known : List Identity) (c : Course) (i : ℕ) : Type 0 where
  pub own : Identity
  pub there : slice_get known i ≡ Some own
  pub guid : (manager_at c.network i).state.identity.guid ≡ own.guid

pub known_one : (known : List Identity) (c : Course) (i : ℕ) (x : Manager) → IsOrderly known c → slice_get c.network.managers i ≡ Some x → IsKnown known c i
known_one known c i x o e = let g = within_get known i (let low = get_within c.network.managers i x e in let count = o.count in omega (arith, low, count)) in record {
  own = g.0;
  there = g.1;
  guid = ap (λ (y : Identity). y.guid) (subst (λ (o : Option Identity). IfSome o (λ own. IsItself known own (manager_at c.network i).state)) g.1 (o.themselves i)).identity;
}

pub committed_one : (known : List Identity) (c : Course) (i : ℕ) (m : Commitment) → IsOrderly known c → AreRowed (manager_at c.network i).state (written_of i c.written)
    → In m (commitments (written_of i c.written)) → IsKnown known c i
committed_one known c i m o h inside = at (slice_get c.network.managers i) refl
  where
    row : HasRow (manager_at c.network i).state.outs m
    row = all_in (HasRow (manager_at c.network i).state.outs) (commitments (written_of i c.written)) m h.1 inside

    at : (x : Option Manager) → slice_get c.network.managers i ≡ x → IsKnown known c i
    at None e = absurd (subst (λ (y : Option Manager). In row.0 (unwrap_or y nobody).state.outs) e row.1)
    at (Some x) e = known_one known c i x o e

pub one_manager : (known : List Identity) (c : Course) (i j : ℕ) → AreApart known → IsKnown known c i → IsKnown known c j
    → (manager_at c.network i).state.identity.guid ≡ (manager_at c.network j).state.identity.guid → i ≡ j
one_manager known c i j apart a b same = at (i == j) refl
  where
    at : (t : Bool) → (i == j) ≡ t → i ≡ j
    at true e = equal_numbers i j e
    at false e = absurd (true_not_false (same_guid b.own.guid a.own.guid)
        (subst (λ (g : Guid). same_guid b.own.guid g ≡ true) (sym b.guid ∙ sym same ∙ a.guid) (same_guid_refl b.own.guid))
        (apart_guids known i j a.own b.own apart a.there b.there (apart_numbers i j e)))

-- Decisions.

-- a record decides it
pub in_decisions : (channel : Channel) (p : Position) (ws : List Written) → In p (decisions channel ws) → (w : Written) × In w ws × Decides channel w.entry p
in_decisions channel p [] i = absurd i
in_decisions channel p (w ∷ ws) i = at (λ j. in_decisions channel p ws j) (decided_in channel w.entry) refl i
  where
    Goal : List Written → Type 0
    Goal xs = (x : Written) × In x xs × Decides channel x.entry p

    more : Goal ws → Goal (w ∷ ws)
    more g = (g.0, inr g.1, g.2)

    at : (In p (decisions channel ws) → Goal ws) → (o : Option Position) → decided_in channel w.entry ≡ o → In p (cons_option o (decisions channel ws)) → Goal (w ∷ ws)
    at rest None e j = more (rest j)
    at rest (Some q) e (inl f) = (w, inl refl, decides channel w.entry p (e ∙ ap (λ x. Some x) f))
    at rest (Some q) e (inr j) = more (rest j)

-- what was offered does not expire
unexpired : (c : Course) (i : ℕ) (p : Position) → AreOffersKept c → IsOffered (written_of i c.written) p → In p (expiries_told (lines_written (written_of i c.written))) → ⊥
unexpired c i p kept h told = at (in_split (expiries_told (lines_written h.before)) (expiries_told (lines_written (h.offering ∷ h.behind))) p
    (subst (In p) (ap (λ ws. expiries_told (lines_written ws)) h.split ∙ ap expiries_told (lines_append h.before (h.offering ∷ h.behind))
    ∙ told_append expiry_told (lines_written h.before) (lines_written (h.offering ∷ h.behind))) told))
  where
    quiet : expiries_told (lines_written (h.offering ∷ h.behind)) ≡ expiries_told (lines_written h.behind)
    quiet = ap (λ r. expiries_told (lines_of h.offering.before r ++ lines_written h.behind)) h.offers

    later : In p (expiries_told (lines_written h.behind)) → ⊥
    later inside = let g = expiry_line (lines_written h.behind) p inside in
        let above = kept i h.before h.behind h.offering h.marks h.mark h.split h.offers h.there g.0 g.1 g.2 g.3 g.4 (ap (λ (q : Position). q.sequence.ordinal) g.5 ∙ sym h.ordinal) in
        let number = ap (λ (q : Position). q.number) g.5 in let enough = h.enough in omega (arith, above, number, enough)

    at : In p (expiries_told (lines_written h.before)) ⊎ In p (expiries_told (lines_written (h.offering ∷ h.behind))) → ⊥
    at (inl inside) = h.unexpired inside
    at (inr inside) = later (subst (In p) quiet inside)

pub undecided : (known : List Identity) (c : Course) → AreApart known → IsOrderlyWith known AreMarked c → AreDecidedTruly c → AreOffersKept c → AreUndecided c
undecided known c apart h truly kept i j channel p own told decided = unexpired c i p kept (subst (λ k. IsOffered (written_of k c.written) p) same
    (subst (IsOffered (written_of source.source c.written)) d.position source.committed.offered)) told
  where
    found : (w : Written) × In w (written_of j c.written) × Decides channel w.entry p
    found = in_decisions channel p (written_of j c.written) decided

    d : Decides channel found.0.entry p
    d = found.2

    source : ComesFromItsSource c c.written d.packet d.head
    source = sourced c truly found.0 (filtered_in (λ (w : Written). w.by == j) c.written found.0 found.1) d.now d.numbers d.packet d.head d.entry d.there

    first : IsKnown known c source.source
    first = committed_one known c source.source source.committed.commitment h.0 (h.1 source.source).0.0.0 source.committed.there

    expired : (m : Commitment) × In m (commitments (written_of i c.written)) × (m.position ≡ p)
    expired = expired_committed (manager_at c.network i).state (written_of i c.written) p (h.1 i).0.0 told

    second : IsKnown known c i
    second = committed_one known c i expired.0 h.0 (h.1 i).0.0.0 expired.1

    same : source.source ≡ i
    same = one_manager known c source.source i apart first second (source.own
        ∙ same_guid_is d.packet.message.id.qm channel.source (split_and (same_guid d.packet.message.id.qm channel.source) (same_name d.packet.message.destination channel.destination) d.inside).0
        ∙ sym own)

pub always_undecided : AlwaysUndecided
always_undecided known ms apart run kept = undecided known (settled kept (after_run known ms)) apart
    (always_kept known (IsOrderlyWith known AreMarked) (by_records known AreMarked apart marked_by_records) ms run kept (begins_with known AreMarked marked_by_records))
    (always_decided_truly known ms apart run kept) (always_offers_kept known ms apart run kept)

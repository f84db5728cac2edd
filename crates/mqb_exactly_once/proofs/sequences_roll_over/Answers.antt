use Rattle.std.proofs.Common.{◌≡◌, ℕ, ◌≤◌, inl, inr, true, false, ◌==◌, List, [], ◌∷◌, refl, sym, subst, ◌∙◌, arith}
use Rattle.std.proofs.lemmas.Bool.{true≢false}
use Rattle.mqb_base.specs.declared.ids.SequenceId.{SequenceId}
use Rattle.mqb_base.specs.declared.message.Message.{Message}
use Rattle.mqb_base.specs.Sequences.{earlier}
use Rattle.mqb_base.specs.Times.{remaining}
use Rattle.mqb_exactly_once.specs.Outcomes.{Put}
use Rattle.mqb_exactly_once.specs.World.{Channel, Position, Commitment, Transfer, StreamWorld}
use Rattle.mqb_exactly_once.specs.Words.{In, due, carried}
use Rattle.mqb_exactly_once.specs.Steps.{StreamStep, Commit, Offer, Send, Arrive, Acknowledge, Acknowledged, Connect, EarlierAcknowledged}
use Rattle.mqb_exactly_once.specs.Runs.{after, IsRun}
use Rattle.mqb_exactly_once.proofs.Members.{In_from_committed, kept_is_committed}
use Rattle.mqb_exactly_once.proofs.Deciding.{none_left_where_due}
use Rattle.mqb_exactly_once.proofs.sequences_roll_over.Goals as goal

abbrev first : SequenceId
first = record { ordinal = 1; stamp = 1000 }

abbrev second : SequenceId
second = record { ordinal = 2; stamp = 1000 }

abbrev at : SequenceId → ℕ → Position
at s n = record { sequence = s; number = n }

abbrev packet : SequenceId → ℕ → ℕ → Message → ℕ → Transfer
packet s n previous m moment =
    record { head = record { sequence = s; number = n; previous = previous }; message = carried m moment; sent_at = moment; connection = 1 }

in_time : (m : Message) (moment : ℕ) → due m moment ≡ false → false ≡ (remaining m.sent m.reach moment == 0)
in_time m moment early = sym (none_left_where_due m.sent m.reach moment ∙ early)

-- a message does not stand in an earlier sequence
not_earlier : (d c : Commitment) (s : SequenceId) → d ≡ c → earlier d.position.sequence s ≡ false → earlier c.position.sequence s ≡ true → ⊥
not_earlier d c s is not before = true≢false (sym before ∙ subst (λ (e : Commitment). earlier e.position.sequence s ≡ false) is not)

module _ (channel : Channel) (one two three : Message) (moment : ℕ) where
  abbrev committed : List StreamStep
  committed = Commit second three ∷ Commit first two ∷ Commit first one ∷ []

  abbrev both_arrived : List StreamStep
  both_arrived = Arrive (packet first 2 1 two moment) Put ∷ Arrive (packet first 1 0 one moment) Put
      ∷ Send (record { position = at first 2; message = two }) moment ∷ Send (record { position = at first 1; message = one }) moment
      ∷ Offer (at first 2) ∷ Offer (at first 1) ∷ Connect ∷ committed

  abbrev acknowledged : List StreamStep
  acknowledged = Acknowledged (record { position = at first 2; connection = 1 }) ∷ Acknowledge (at first 2) ∷ both_arrived

  abbrev all_arrived : List StreamStep
  all_arrived = Arrive (packet second 1 0 three moment) Put ∷ Send (record { position = at second 1; message = three }) moment
      ∷ Offer (at second 1) ∷ acknowledged

  -- of the messages that were committed, those of earlier sequences than s are acknowledged
  earlier_acknowledged : (w : StreamWorld) (s : SequenceId) → w.committed ≡ (after channel committed).committed
      → ((c : Commitment) → In c (after channel committed).committed → earlier c.position.sequence s ≡ true
      → c.position.number ≤ w.acknowledged c.position.sequence)
      → EarlierAcknowledged w s
  earlier_acknowledged w s same each p before is_kept =
      let found = In_from_committed w.committed p (kept_is_committed w.committed w.expired p is_kept) in
      subst (λ (q : Position). earlier q.sequence s ≡ true → q.number ≤ w.acknowledged q.sequence) found.2
      (each found.0 (subst (λ cs. In found.0 cs) same found.1)) before

  abbrev Holds : StreamWorld → Commitment → Type 0
  Holds w c = c.position.number ≤ w.acknowledged c.position.sequence

  first_is_first : (c : Commitment) → In c (after channel committed).committed → earlier c.position.sequence first ≡ true → c.position.number ≤ 0
  first_is_first c (inl is) before = absurd (not_earlier _ c first is refl before)
  first_is_first c (inr (inl is)) before = absurd (not_earlier _ c first is refl before)
  first_is_first c (inr (inr (inl is))) before = absurd (not_earlier _ c first is refl before)
  first_is_first c (inr (inr (inr none))) before = absurd none

  first_acknowledged : (c : Commitment) → In c (after channel committed).committed → earlier c.position.sequence second ≡ true
      → Holds (after channel acknowledged) c
  first_acknowledged c (inl is) before = absurd (not_earlier _ c second is refl before)
  first_acknowledged c (inr (inl is)) before = subst (Holds (after channel acknowledged)) is (omega arith)
  first_acknowledged c (inr (inr (inl is))) before = subst (Holds (after channel acknowledged)) is (omega arith)
  first_acknowledged c (inr (inr (inr none))) before = absurd none

  abbrev IsLast : SequenceId → Commitment → Type 0
  IsLast s c = earlier s c.position.sequence ≡ false

  second_is_last : (c : Commitment) → In c (after channel (Commit first two ∷ Commit first one ∷ [])).committed → IsLast second c
  second_is_last c (inl is) = subst (IsLast second) is refl
  second_is_last c (inr (inl is)) = subst (IsLast second) is refl
  second_is_last c (inr (inr none)) = absurd none

  first_is_last : (c : Commitment) → In c (after channel (Commit first one ∷ [])).committed → IsLast first c
  first_is_last c (inl is) = subst (IsLast first) is refl
  first_is_last c (inr none) = absurd none

  run_of_committed : IsRun channel committed
  run_of_committed = (second_is_last, (first_is_last, ((λ c inside. absurd inside), tt)))

  run_of_both : due one moment ≡ false → due two moment ≡ false → IsRun channel both_arrived
  run_of_both early_one early_two = (
    ((refl, refl), inl refl, in_time two moment early_two),
    (
      ((refl, refl), inr (inl refl), in_time one moment early_one),
      (
        (refl, inr (inl refl), refl, omega arith, omega arith),
        (
          (refl, inr (inr (inl refl)), refl, omega arith, omega arith),
          (
            (refl, omega arith, earlier_acknowledged (after channel (Offer (at first 1) ∷ Connect ∷ committed)) first refl first_is_first),
            (
              (refl, omega arith, earlier_acknowledged (after channel (Connect ∷ committed)) first refl first_is_first),
              (refl, run_of_committed),
            ),
          ),
        ),
      ),
    ),
  )

  run_of_all : due one moment ≡ false → due two moment ≡ false → due three moment ≡ false → IsRun channel all_arrived
  run_of_all early_one early_two early_three = (
    ((refl, refl), inl refl, in_time three moment early_three),
    (
      (refl, inl refl, refl, omega arith, omega arith),
      (
        (refl, omega arith, earlier_acknowledged (after channel acknowledged) second refl first_acknowledged),
        (
          ((refl, refl), inl refl, omega arith, omega arith),
          ((refl, refl), run_of_both early_one early_two),
        ),
      ),
    ),
  )

pub returns : goal.returns
returns c = λ channel one two three moment early_one early_two early_three.
    (all_arrived channel one two three moment, run_of_all channel one two three moment early_one early_two early_three, refl)

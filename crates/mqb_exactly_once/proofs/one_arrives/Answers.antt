use Rattle.mqb_orders.specs.Judging.{verdict_of}
use Rattle.mqb_orders.specs.declared.judging.Verdict.TheVariants.{Next, Gap}
use Rattle.mqb_base.specs.Sequences.{earlier}
use Rattle.mqb_base.specs.Times.{remaining}
use Rattle.std.proofs.Common.{◌≡◌, ℕ, ◌≤◌, Bool, true, false, cond, ◌==◌, [], ◌∷◌, refl, sym, ap, subst, ◌∙◌, arith, ◌||◌, inl, None, nat_lt}
use Rattle.std.proofs.lemmas.Bool.{and_parts, true≢false}
use Rattle.mqb_base.specs.declared.ids.SequenceId.{SequenceId}
use Rattle.mqb_base.specs.declared.message.Message.{Message}
use Rattle.mqb_exactly_once.specs.Outcomes.{Put}
use Rattle.mqb_exactly_once.specs.World.{Channel, Position, Commitment, StreamWorld}
use Rattle.mqb_exactly_once.specs.Words.{same_position, kept, due}
use Rattle.mqb_exactly_once.specs.Steps.{Commit, Offer, Send, Arrive, Connect, transfer, decision, decided_after, EarlierAcknowledged}
use Rattle.mqb_exactly_once.specs.Runs.{after}
use Rattle.mqb_exactly_once.proofs.Positions.{same_position_refl, same_sequence_refl, same_position_is, not_earlier_itself}
use Rattle.mqb_exactly_once.proofs.Deciding.{none_left_where_due}
use Rattle.mqb_exactly_once.proofs.one_arrives.Goals as goal

module _ (channel : Channel) (s : SequenceId) (m : Message) (moment : ℕ) (early : due m moment ≡ false) where
  abbrev first : Position
  first = record { sequence = s; number = 1 }

  abbrev c : Commitment
  c = record { position = first; message = m }

  abbrev committed : StreamWorld
  committed = after channel (Commit s m ∷ [])

  abbrev offered : StreamWorld
  offered = after channel (Connect ∷ Offer first ∷ Commit s m ∷ [])

  first_kept : kept committed first ≡ true
  first_kept = rw (same_position_refl first)

  none_earlier : EarlierAcknowledged committed s
  none_earlier p before is_kept = at (same_position first p) refl (and_parts _ _ is_kept).0
    where
      at : (b : Bool) → same_position first p ≡ b → (b || false) ≡ true → p.number ≤ 0
      at true same _ =
          let not_before = subst (λ (q : Position). earlier q.sequence s ≡ false) (same_position_is first p same) (not_earlier_itself s) in
          absurd (true≢false (sym before ∙ not_before))
      at false other none = absurd (true≢false (sym none))

  first_offered : 1 ≤ offered.offered s
  first_offered = rw (same_sequence_refl s) (omega arith)

  in_time : false ≡ (remaining m.sent m.reach moment == 0)
  in_time = sym (none_left_where_due m.sent m.reach moment ∙ early)

  first_of_all : (transfer offered c moment).head.previous ≡ 0
  first_of_all = same (kept offered (record { sequence = s; number = 0 }))
    where
      same : (b : Bool) → cond {A = ℕ} b 0 0 ≡ 0
      same true = refl
      same false = refl

  arrived : decided_after (verdict_of None (transfer offered c moment).head) (decision (transfer offered c moment) Put) []
      ≡ decision (transfer offered c moment) Put ∷ []
  arrived = ap (λ n. decided_after (cond (nat_lt 0 n) Gap Next) (decision (transfer offered c moment) Put) []) first_of_all

pub returns : goal.returns
returns g = λ channel s m moment early.
    let packet = transfer (offered channel s m moment early) (c channel s m moment early) moment in (
      Arrive packet Put ∷ Send (c channel s m moment early) moment ∷ Connect ∷ Offer (first channel s m moment early) ∷ Commit s m ∷ [],
      (
        ((refl, refl), inl refl, in_time channel s m moment early),
        (
          (refl, inl refl, first_kept channel s m moment early, omega arith, first_offered channel s m moment early),
          (
            refl,
            (
              (first_kept channel s m moment early, omega arith, none_earlier channel s m moment early),
              ((λ d inside. absurd inside), tt),
            ),
          ),
        ),
      ),
      arrived channel s m moment early,
    )

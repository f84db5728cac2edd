-- A plan that was made is what the definitions come to.
use Rattle.std.proofs.Common.{◌≡◌, ℕ, [], Option, None, Some, sym, ap, ◌∙◌}
use Rattle.mqb_base.specs.declared.class.Class.{Class}
use Rattle.mqb_base.specs.declared.heard.Heard.{Heard}
use Rattle.mqb_base.specs.declared.message.Message.{Message}
use Rattle.mqb_timeouts.specs.declared.work.ExpressWork.{ExpressWork}
use Rattle.mqb_timeouts.specs.declared.work.ExpressWork.TheVariants as work
use Rattle.mqb_session.specs.State as one_end
use Rattle.mqb_model.specs.calls.hear.Hear.{listening}
use Rattle.mqb_model.specs.calls.hear.Plain.{express_arrived}
use Rattle.mqb_model.specs.calls.hear.Session.{HeardOutcome, arrival_entry, heard_as, numbers_released}
use Rattle.mqb_model.specs.managers.Manager.{Manager, linked_peer}
use Rattle.mqb_model.specs.records.Record.{Part, Record}
use Rattle.mqb_hearing.specs.Arrivals.{arrival_of}
use Rattle.mqb_hearing.specs.Plans.{Behind, in_state, listening_so, outcome_of, owing_at}
use Rattle.mqb_hearing.proofs.Records.{entry_is}

-- an outcome of these parts
abbrev outcome : Manager → Heard → one_end.State → Option Record → ExpressWork → Option ℕ → HeardOutcome
outcome m answer session arrival work owes = outcome_of m (record { answer = answer; session = session; arrival = record { written = arrival; packet = [] }; work = work; owes = owes })

module _ (b : Behind) (part : Part) (answer : Heard) (arrival : Option Record) (peer number : ℕ)
    (arrived : arrival ≡ arrival_of b.moment (numbers_released (listening_so b)) part) (whose : peer ≡ linked_peer b.state b.session)
    (acked : number ≡ b.session.acked) where
  is_entry : (m : Manager) → arrival ≡ arrival_entry (listening (in_state b.state m) b.session b.moment) part
  is_entry m = arrived ∙ entry_is (listening (in_state b.state m) b.session b.moment) part

  -- a packet is heard as this
  pub as_planned : (owes : Option ℕ) (m : Manager) → owing_at owes (heard_as (listening (in_state b.state m) b.session b.moment) part answer)
      ≡ outcome (in_state b.state m) answer b.session arrival (work.Drops peer number) owes
  as_planned None m = ap (λ (a : Option Record). outcome (in_state b.state m) answer b.session a (work.Drops (linked_peer b.state b.session) b.session.acked) None) (sym (is_entry m))
      ∙ ap (λ (k : ℕ). outcome (in_state b.state m) answer b.session arrival (work.Drops k b.session.acked) None) (sym whose)
      ∙ ap (λ (k : ℕ). outcome (in_state b.state m) answer b.session arrival (work.Drops peer k) None) (sym acked)
  as_planned (Some row) m = ap (λ (a : Option Record). outcome (in_state b.state m) answer b.session a (work.Drops (linked_peer b.state b.session) b.session.acked) (Some row)) (sym (is_entry m))
      ∙ ap (λ (k : ℕ). outcome (in_state b.state m) answer b.session arrival (work.Drops k b.session.acked) (Some row)) (sym whose)
      ∙ ap (λ (k : ℕ). outcome (in_state b.state m) answer b.session arrival (work.Drops peer k) (Some row)) (sym acked)

  -- with an express message
  pub with_planned : (message : Message) (refusal : Option Class) (m : Manager) → let l = listening (in_state b.state m) b.session b.moment in
      let given : HeardOutcome = record (heard_as l part answer) { beside = express_arrived l message refusal } in
      given ≡ outcome (in_state b.state m) answer b.session arrival (work.Hears peer number b.moment message refusal) None
  with_planned message refusal m = ap (λ (a : Option Record). outcome (in_state b.state m) answer b.session a (work.Hears (linked_peer b.state b.session) b.session.acked b.moment message refusal) None)
      (sym (is_entry m))
      ∙ ap (λ (k : ℕ). outcome (in_state b.state m) answer b.session arrival (work.Hears k b.session.acked b.moment message refusal) None) (sym whose)
      ∙ ap (λ (k : ℕ). outcome (in_state b.state m) answer b.session arrival (work.Hears peer k b.moment message refusal) None) (sym acked)

  -- the same, for a session and a moment that are these
  pub as_planned_at : (at : one_end.State) → at ≡ b.session → (owes : Option ℕ) (m : Manager) → owing_at owes (heard_as (listening (in_state b.state m) b.session b.moment) part answer)
      ≡ outcome (in_state b.state m) answer at arrival (work.Drops peer number) owes
  as_planned_at at stands owes m = as_planned owes m ∙ ap (λ (x : one_end.State). outcome (in_state b.state m) answer x arrival (work.Drops peer number) owes) (sym stands)

  pub with_planned_at : (at : one_end.State) → at ≡ b.session → (now : ℕ) → now ≡ b.moment → (message : Message) (refusal : Option Class) (m : Manager)
      → let l = listening (in_state b.state m) b.session b.moment in
      let given : HeardOutcome = record (heard_as l part answer) { beside = express_arrived l message refusal } in
      given ≡ outcome (in_state b.state m) answer at arrival (work.Hears peer number now message refusal) None
  with_planned_at at stands now same message refusal m = with_planned message refusal m
      ∙ ap (λ (x : one_end.State). outcome (in_state b.state m) answer x arrival (work.Hears peer number b.moment message refusal) None) (sym stands)
      ∙ ap (λ (n : ℕ). outcome (in_state b.state m) answer at arrival (work.Hears peer number n message refusal) None) (sym same)

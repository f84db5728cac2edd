-- A call that is refused changes nothing, and the disk is called exactly where a record is written.
use Rattle.std.specs.Prelude.{◌≡◌, Err, IfErr, Result, is_some, true, ℕ}
use Rattle.mqb_base.specs.declared.ids.Identity.{Identity}
use Rattle.mqb_packet.specs.declared.packet.Packet.{Packet}
use Rattle.mqb_model.specs.calls.AddPeer.{add_peer}
use Rattle.mqb_model.specs.calls.Call.{Answer, Request, is_refusal, requested}
use Rattle.mqb_model.specs.calls.Link.{link}
use Rattle.mqb_model.specs.calls.hear.Hear.{hear}
use Rattle.mqb_model.specs.calls.pump.Pump.{pump}
use Rattle.mqb_model.specs.declared.answers.Role.{Role}
use Rattle.mqb_model.specs.managers.Manager.{Manager}
use Rattle.mqb_model.specs.managers.Outcomes.{Outcome, answering}

-- what holds of the outcome of a call that can be refused
pub record IsWhole {V E : Type 0} (m : Manager) (outcome : Outcome (Result V E)) : Type 0 where
  pub refused : IfErr outcome.answer (λ fault. outcome ≡ answering m (Err fault))
  pub touches : outcome.touches ≡ is_some outcome.entry

-- and of what a request comes to
pub record IsWholeRequest (m : Manager) (outcome : Outcome Answer) : Type 0 where
  pub refused : is_refusal outcome.answer ≡ true → outcome ≡ answering m outcome.answer
  pub touches : outcome.touches ≡ is_some outcome.entry

-- it holds of each call of a manager
pub record CallsAreWhole (m : Manager) : Type 0 where
  pub add_peer_whole : (peer : Identity) → IsWhole m (add_peer m peer)
  pub request_whole : (given : Request) → IsWholeRequest m (requested m given)
  pub link_whole : (end : Role) (window : ℕ) → IsWhole m (link m end window)
  pub hear_whole : (p : Packet) (now : ℕ) → IsWhole m (hear m p now)
  pub pump_whole : (now : ℕ) → IsWhole m (pump m now)

-- Refusals change nothing.
abbrev pub RefusalsChangeNothing : Type 0
RefusalsChangeNothing = (m : Manager) → CallsAreWhole m

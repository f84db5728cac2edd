use Rattle.std.proofs.Common.{◌≡◌, ◌∙◌, List, ℕ, ap, subst, sym}
use Rattle.std.specs.Prelude.{IfOk}
use Rattle.mqb_entries.specs.Packets.{shown}
use Rattle.mqb_model.specs.records.Reading.{user_packet_of}
use Rattle.mqb_arrivals.proofs.packets.user_packet_of.Goals as goal

pub returns-in-Message-clause-user : goal.returns-in-Message-clause-user
returns-in-Message-clause-user c = subst (λ (bytes : List ℕ). IfOk c.copied.result (λ user. user ≡ user_packet_of bytes)) (sym (ap shown c.in-Message.is) ∙ c.form.ensures.shown) c.copied.ensures.user

-- A message that is made of what a sender chose is well formed, whatever its delivery, where its priority is no greater.
use Rattle.std.proofs.Common.{refl, sym, subst, arith, length}
use Rattle.std.proofs.lemmas.Bool.Decides.{nat_tests}
use Rattle.std.specs.Prelude.{◌≡◌, ◌≤◌, Bool, None, Option, Some, cond, false, nat_lt, not, true, ℕ}
use Rattle.mqb_base.specs.Drafts.{draft_fault}
use Rattle.mqb_base.specs.Messages.{IsWellFormed}
use Rattle.mqb_base.specs.QueueNames.{absent_or_queue, names_queue}
use Rattle.mqb_base.specs.declared.bits.TheConstants.{MAX_ACK, MAX_JOURNAL}
use Rattle.mqb_base.specs.declared.draft.DraftFault.{DraftFault}
use Rattle.mqb_base.specs.declared.draft.DraftFault.TheVariants as fault
use Rattle.mqb_base.specs.declared.draft.Parts.{Parts}
use Rattle.mqb_base.specs.declared.ids.MessageId.{MessageId}
use Rattle.mqb_base.specs.declared.message.Delivery.{Delivery}
use Rattle.mqb_base.specs.declared.message.Message.{Message}
use Rattle.mqb_base.specs.declared.message.TheConstants.{MAX_LABEL, MAX_PRIORITY}
use Rattle.mqb_model.specs.calls.Messages.{message_of}

none_first : (b : Bool) (why : DraftFault) (o : Option DraftFault) → cond b (Some why) o ≡ None → (b ≡ false) × (o ≡ None)
none_first true why o e = absurd (let none : ⊥ = cc in none)
none_first false why o e = (refl, e)

not_false : (b : Bool) → not b ≡ false → b ≡ true
not_false true e = refl
not_false false e = sym e

at_most : (n limit : ℕ) → nat_lt limit n ≡ false → n ≤ limit
at_most n limit h = grind (arith, nat_tests)

made : (id : MessageId) (way : Delivery) (priority now : ℕ) (p : Parts) → priority ≤ p.priority → draft_fault p ≡ None → IsWellFormed (message_of id way priority now p)
made id way priority now p low sound =
    let a = none_first (not (names_queue p.destination)) fault.Destination _ sound in
    let b = none_first (nat_lt MAX_PRIORITY p.priority) fault.Priority _ a.1 in
    let c = none_first (not (absent_or_queue p.admin)) fault.Admin _ b.1 in
    let e = none_first (not (absent_or_queue p.response)) fault.Response _ c.1 in
    let f = none_first (nat_lt MAX_ACK p.ack) fault.Ack _ e.1 in
    let g = none_first (nat_lt MAX_JOURNAL p.journal) fault.Journal _ f.1 in
    let h = none_first (nat_lt MAX_LABEL (length p.label)) fault.Label _ g.1 in
    let most = at_most p.priority MAX_PRIORITY b.0 in
    record {
      priority = omega (arith, low, most);
      ack = at_most p.ack MAX_ACK f.0;
      journal = at_most p.journal MAX_JOURNAL g.0;
      label = at_most (length p.label) MAX_LABEL h.0;
      class = refl;
      destination = not_false (names_queue p.destination) a.0;
      admin = not_false (absent_or_queue p.admin) c.0;
      response = not_false (absent_or_queue p.response) e.0;
    }

pub well_formed : (id : MessageId) (way : Delivery) (priority now : ℕ) (p : Parts) (m : Message) → m ≡ message_of id way priority now p → priority ≤ p.priority → draft_fault p ≡ None → IsWellFormed m
well_formed id way priority now p m is low sound = subst IsWellFormed (sym is) (made id way priority now p low sound)

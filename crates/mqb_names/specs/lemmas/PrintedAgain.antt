-- Every printed name is read again, so no two names are printed alike.
use Rattle.std.proofs.Common.{◌≡◌, Result, Ok, sym, ap, ◌∙◌}
use Rattle.mqb_base.specs.declared.queue_names.QueueName.{QueueName}
use Rattle.mqb_base.specs.declared.queue_names.QueueName.TheVariants.{Public, Private}
use Rattle.mqb_base.specs.declared.queue_names.QueueName.TheVariants.{Direct, Machine}
use Rattle.mqb_names.specs.declared.faults.PartFault.{PartFault}
use Rattle.mqb_names.specs.Printed.{printed}
use Rattle.mqb_names.specs.Reading.{name_of}
use Rattle.mqb_names.specs.Values.{IsQueueName}
use Rattle.mqb_names.specs.lemmas.Again.{public_name, private_name, machine_name}
use Rattle.mqb_names.specs.lemmas.DirectAgain.{direct_name}

pub printed_again : (name : QueueName) → IsQueueName name → name_of (printed name) ≡ Ok name
printed_again (Public guid journal) valid = public_name guid journal valid
printed_again (Private qm number journal) valid = private_name qm number journal valid.0 valid.1
printed_again (Direct host queue journal) valid = direct_name host queue journal valid.0 valid.1
printed_again (Machine qm kind) valid = machine_name qm kind valid

abbrev read : QueueName → Result QueueName PartFault
read name = Ok name

same_read : (a b : QueueName) → read a ≡ read b → a ≡ b
same_read a b e = cc

pub printed_apart : (a b : QueueName) → IsQueueName a → IsQueueName b
    → printed a ≡ printed b → a ≡ b
printed_apart a b is_a is_b alike =
    same_read a b (sym (printed_again a is_a) ∙ ap name_of alike ∙ printed_again b is_b)

-- Names test as the same from either side.
use Rattle.std.proofs.Common.{◌≡◌, ℕ, Bool, true, false, List, [], ◌∷◌, refl, ap₂, arith}
use Rattle.std.proofs.lemmas.Bool.Decides.{nat_tests}
use Rattle.std.specs.Prelude.{◌&&◌, ◌==◌}
use Rattle.mqb_base.specs.Same.{same_bytes, same_flag, same_guid, same_host, same_kind, same_name}
use Rattle.mqb_base.specs.declared.ids.Guid.{Guid}
use Rattle.mqb_base.specs.declared.queue_names.Host.{Host}
use Rattle.mqb_base.specs.declared.queue_names.Host.TheVariants.{Os, Tcp}
use Rattle.mqb_base.specs.declared.queue_names.MachineQueue.{MachineQueue}
use Rattle.mqb_base.specs.declared.queue_names.MachineQueue.TheVariants.{DeadLetter, DeadXact, Journal}
use Rattle.mqb_base.specs.declared.queue_names.QueueName.{QueueName}
use Rattle.mqb_base.specs.declared.queue_names.QueueName.TheVariants.{Direct, Machine, Private, Public}

number_turned : (m n : ℕ) → (m == n) ≡ (n == m)
number_turned m n = grind (arith, nat_tests)

bytes_turned : (a b : List ℕ) → same_bytes a b ≡ same_bytes b a
bytes_turned [] [] = refl
bytes_turned [] (y ∷ b) = refl
bytes_turned (x ∷ a) [] = refl
bytes_turned (x ∷ a) (y ∷ b) = ap₂ (λ one rest. one && rest) (number_turned x y) (bytes_turned a b)

pub guid_turned : (a b : Guid) → same_guid a b ≡ same_guid b a
guid_turned a b = bytes_turned a.0 b.0

flag_turned : (a b : Bool) → same_flag a b ≡ same_flag b a
flag_turned true true = refl
flag_turned true false = refl
flag_turned false true = refl
flag_turned false false = refl

host_turned : (a b : Host) → same_host a b ≡ same_host b a
host_turned (Os a) (Os b) = bytes_turned a b
host_turned (Tcp a) (Tcp b) = bytes_turned a b
host_turned (Os a) (Tcp b) = refl
host_turned (Tcp a) (Os b) = refl

kind_turned : (a b : MachineQueue) → same_kind a b ≡ same_kind b a
kind_turned DeadLetter DeadLetter = refl
kind_turned DeadLetter DeadXact = refl
kind_turned DeadLetter Journal = refl
kind_turned DeadXact DeadLetter = refl
kind_turned DeadXact DeadXact = refl
kind_turned DeadXact Journal = refl
kind_turned Journal DeadLetter = refl
kind_turned Journal DeadXact = refl
kind_turned Journal Journal = refl

both : {a b c d : Bool} → a ≡ b → c ≡ d → (a && c) ≡ (b && d)
both one two = ap₂ (λ x y. x && y) one two

pub name_turned : (a b : QueueName) → same_name a b ≡ same_name b a
name_turned (Public g i) (Public h j) = both (guid_turned g h) (flag_turned i j)
name_turned (Private g m i) (Private h n j) = both (both (guid_turned g h) (number_turned m n)) (flag_turned i j)
name_turned (Direct a p i) (Direct b q j) = both (both (host_turned a b) (bytes_turned p q)) (flag_turned i j)
name_turned (Machine g k) (Machine h l) = both (guid_turned g h) (kind_turned k l)
name_turned (Public g i) (Private h n j) = refl
name_turned (Public g i) (Direct b q j) = refl
name_turned (Public g i) (Machine h l) = refl
name_turned (Private g m i) (Public h j) = refl
name_turned (Private g m i) (Direct b q j) = refl
name_turned (Private g m i) (Machine h l) = refl
name_turned (Direct a p i) (Public h j) = refl
name_turned (Direct a p i) (Private h n j) = refl
name_turned (Direct a p i) (Machine h l) = refl
name_turned (Machine g k) (Public h j) = refl
name_turned (Machine g k) (Private h n j) = refl
name_turned (Machine g k) (Direct b q j) = refl

-- Names, hosts and GUIDs that test as the same are the same.
use Rattle.std.proofs.Common.{◌≡◌, ℕ, Bool, true, false, List, refl, sym, ap, ap₂, arith}
use Rattle.std.specs.Prelude.{◌==◌}
use Rattle.std.specs.Cmp.Lexicographic.{bytes_decides}
use Rattle.std.proofs.lemmas.Bool.{and_parts, and_from, eqb-true, true≢false}
use Rattle.std.proofs.lemmas.Bool.Decides.{nat_tests}
use Rattle.mqb_base.specs.declared.ids.Guid.{Guid}
use Rattle.mqb_base.specs.declared.queue_names.Host.{Host}
use Rattle.mqb_base.specs.declared.queue_names.Host.TheVariants.{Os, Tcp}
use Rattle.mqb_base.specs.declared.queue_names.MachineQueue.{MachineQueue}
use Rattle.mqb_base.specs.declared.queue_names.MachineQueue.TheVariants.{DeadLetter, DeadXact, Journal}
use Rattle.mqb_base.specs.declared.queue_names.QueueName.{QueueName}
use Rattle.mqb_base.specs.declared.queue_names.QueueName.TheVariants.{Public, Private, Direct, Machine}
use Rattle.mqb_base.specs.Same.{same_bytes, same_flag, same_guid, same_host, same_kind, same_name}

same_bytes_is : (a b : List ℕ) → same_bytes a b ≡ true → a ≡ b
same_bytes_is a b h = (bytes_decides a b).0 h

same_bytes_refl : (a : List ℕ) → same_bytes a a ≡ true
same_bytes_refl a = (bytes_decides a a).1 refl

same_flag_is : (a b : Bool) → same_flag a b ≡ true → a ≡ b
same_flag_is true true h = refl
same_flag_is true false h = absurd (true≢false (sym h))
same_flag_is false true h = absurd (true≢false (sym h))
same_flag_is false false h = refl

same_flag_refl : (a : Bool) → same_flag a a ≡ true
same_flag_refl true = refl
same_flag_refl false = refl

pub same_guid_is : (a b : Guid) → same_guid a b ≡ true → a ≡ b
same_guid_is a b h = ap (λ (x : List ℕ). record { 0 = x }) (same_bytes_is a.0 b.0 h)

pub same_guid_refl : (a : Guid) → same_guid a a ≡ true
same_guid_refl a = same_bytes_refl a.0

same_host_is : (a b : Host) → same_host a b ≡ true → a ≡ b
same_host_is (Os a) (Os b) h = ap (λ (x : List ℕ). Os x) (same_bytes_is a b h)
same_host_is (Tcp a) (Tcp b) h = ap (λ (x : List ℕ). Tcp x) (same_bytes_is a b h)
same_host_is (Os a) (Tcp b) h = absurd (true≢false (sym h))
same_host_is (Tcp a) (Os b) h = absurd (true≢false (sym h))

same_host_refl : (a : Host) → same_host a a ≡ true
same_host_refl (Os a) = same_bytes_refl a
same_host_refl (Tcp a) = same_bytes_refl a

same_kind_is : (a b : MachineQueue) → same_kind a b ≡ true → a ≡ b
same_kind_is DeadLetter DeadLetter h = refl
same_kind_is DeadXact DeadXact h = refl
same_kind_is Journal Journal h = refl
same_kind_is DeadLetter DeadXact h = absurd (true≢false (sym h))
same_kind_is DeadLetter Journal h = absurd (true≢false (sym h))
same_kind_is DeadXact DeadLetter h = absurd (true≢false (sym h))
same_kind_is DeadXact Journal h = absurd (true≢false (sym h))
same_kind_is Journal DeadLetter h = absurd (true≢false (sym h))
same_kind_is Journal DeadXact h = absurd (true≢false (sym h))

same_kind_refl : (a : MachineQueue) → same_kind a a ≡ true
same_kind_refl DeadLetter = refl
same_kind_refl a = refl

pub same_name_is : (a b : QueueName) → same_name a b ≡ true → a ≡ b
same_name_is (Public g i) (Public h j) e = let p = and_parts _ _ e in ap₂ (λ x y. Public x y) (same_guid_is g h p.0) (same_flag_is i j p.1)
same_name_is (Private g m i) (Private h n j) e =
    let p = and_parts _ _ e in
    let q = and_parts _ _ p.0 in
    let guid : g ≡ h = same_guid_is g h q.0 in
    let number : m ≡ n = eqb-true m n q.1 in
    let flag : i ≡ j = same_flag_is i j p.1 in
    rw (guid, number, flag) refl
same_name_is (Direct a p i) (Direct b q j) e =
    let x = and_parts _ _ e in
    let y = and_parts _ _ x.0 in
    let host : a ≡ b = same_host_is a b y.0 in
    let queue : p ≡ q = same_bytes_is p q y.1 in
    let flag : i ≡ j = same_flag_is i j x.1 in
    rw (host, queue, flag) refl
same_name_is (Machine g k) (Machine h l) e = let p = and_parts _ _ e in ap₂ (λ x y. Machine x y) (same_guid_is g h p.0) (same_kind_is k l p.1)
same_name_is (Public g i) (Private h n j) e = absurd (true≢false (sym e))
same_name_is (Public g i) (Direct b q j) e = absurd (true≢false (sym e))
same_name_is (Public g i) (Machine h l) e = absurd (true≢false (sym e))
same_name_is (Private g m i) (Public h j) e = absurd (true≢false (sym e))
same_name_is (Private g m i) (Direct b q j) e = absurd (true≢false (sym e))
same_name_is (Private g m i) (Machine h l) e = absurd (true≢false (sym e))
same_name_is (Direct a p i) (Public h j) e = absurd (true≢false (sym e))
same_name_is (Direct a p i) (Private h n j) e = absurd (true≢false (sym e))
same_name_is (Direct a p i) (Machine h l) e = absurd (true≢false (sym e))
same_name_is (Machine g k) (Public h j) e = absurd (true≢false (sym e))
same_name_is (Machine g k) (Private h n j) e = absurd (true≢false (sym e))
same_name_is (Machine g k) (Direct b q j) e = absurd (true≢false (sym e))

pub same_name_refl : (a : QueueName) → same_name a a ≡ true
same_name_refl (Public g i) = and_from _ _ (same_guid_refl g) (same_flag_refl i)
same_name_refl (Private g m i) =
    let number : (m == m) ≡ true = grind (arith, nat_tests) in
    and_from _ _ (and_from _ _ (same_guid_refl g) number) (same_flag_refl i)
same_name_refl (Direct a p i) = and_from _ _ (and_from _ _ (same_host_refl a) (same_bytes_refl p)) (same_flag_refl i)
same_name_refl (Machine g k) = and_from _ _ (same_guid_refl g) (same_kind_refl k)

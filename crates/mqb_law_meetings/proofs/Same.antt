-- Names are the same as themselves, and as no others.
use Rattle.std.proofs.Common.{◌≡◌, ℕ, Bool, true, false, List, refl, sym, ap, ap₂}
use Rattle.std.proofs.lemmas.Bool.{and_from, and_parts, eqb-true, true≢false}
use Rattle.std.specs.Cmp.Lexicographic.{bytes_decides}
use Rattle.mqb_base.specs.Same.{same_bytes, same_flag, same_host, same_kind, same_name}
use Rattle.mqb_base.specs.declared.queue_names.Host.{Host}
use Rattle.mqb_base.specs.declared.queue_names.Host.TheVariants.{Os, Tcp}
use Rattle.mqb_base.specs.declared.queue_names.MachineQueue.{MachineQueue}
use Rattle.mqb_base.specs.declared.queue_names.MachineQueue.TheVariants.{DeadLetter, DeadXact, Journal}
use Rattle.mqb_base.specs.declared.queue_names.QueueName.{QueueName}
use Rattle.mqb_base.specs.declared.queue_names.QueueName.TheVariants.{Direct, Machine, Private, Public}
use Rattle.mqb_law_meetings.proofs.Lists.{same_guid_is, same_guid_refl, same_number}

pub same_bytes_refl : (xs : List ℕ) → same_bytes xs xs ≡ true
same_bytes_refl xs = (bytes_decides xs xs).1 refl

same_flag_refl : (b : Bool) → same_flag b b ≡ true
same_flag_refl true = refl
same_flag_refl false = refl

same_host_refl : (h : Host) → same_host h h ≡ true
same_host_refl (Os a) = same_bytes_refl a
same_host_refl (Tcp a) = same_bytes_refl a

same_kind_refl : (k : MachineQueue) → same_kind k k ≡ true
same_kind_refl DeadLetter = refl
same_kind_refl DeadXact = refl
same_kind_refl Journal = refl

pub same_name_refl : (q : QueueName) → same_name q q ≡ true
same_name_refl (Public g i) = and_from _ _ (same_guid_refl g) (same_flag_refl i)
same_name_refl (Private g m i) = and_from _ _ (and_from _ _ (same_guid_refl g) (same_number m)) (same_flag_refl i)
same_name_refl (Direct a p i) = and_from _ _ (and_from _ _ (same_host_refl a) (same_bytes_refl p)) (same_flag_refl i)
same_name_refl (Machine g k) = and_from _ _ (same_guid_refl g) (same_kind_refl k)

-- Names that are the same are equal.

same_bytes_is : (a b : List ℕ) → same_bytes a b ≡ true → a ≡ b
same_bytes_is a b h = (bytes_decides a b).0 h

same_flag_is : (a b : Bool) → same_flag a b ≡ true → a ≡ b
same_flag_is true true h = refl
same_flag_is true false h = absurd (true≢false (sym h))
same_flag_is false true h = absurd (true≢false (sym h))
same_flag_is false false h = refl

same_host_is : (a b : Host) → same_host a b ≡ true → a ≡ b
same_host_is (Os a) (Os b) h = ap (λ (x : List ℕ). Os x) (same_bytes_is a b h)
same_host_is (Tcp a) (Tcp b) h = ap (λ (x : List ℕ). Tcp x) (same_bytes_is a b h)
same_host_is (Os a) (Tcp b) h = absurd (true≢false (sym h))
same_host_is (Tcp a) (Os b) h = absurd (true≢false (sym h))

same_kind_is : (a b : MachineQueue) → same_kind a b ≡ true → a ≡ b
same_kind_is DeadLetter DeadLetter h = refl
same_kind_is DeadXact DeadXact h = refl
same_kind_is Journal Journal h = refl
same_kind_is DeadLetter DeadXact h = absurd (true≢false (sym h))
same_kind_is DeadLetter Journal h = absurd (true≢false (sym h))
same_kind_is DeadXact DeadLetter h = absurd (true≢false (sym h))
same_kind_is DeadXact Journal h = absurd (true≢false (sym h))
same_kind_is Journal DeadLetter h = absurd (true≢false (sym h))
same_kind_is Journal DeadXact h = absurd (true≢false (sym h))

pub same_name_is : (a b : QueueName) → same_name a b ≡ true → a ≡ b
same_name_is (Public g i) (Public h j) e = let p = and_parts _ _ e in ap₂ (λ x y. Public x y) (same_guid_is g h p.0) (same_flag_is i j p.1)
same_name_is (Private g m i) (Private h n j) e =
    let p = and_parts _ _ e in
    let q = and_parts _ _ p.0 in
    let guid : g ≡ h = same_guid_is g h q.0 in
    let number : m ≡ n = eqb-true m n q.1 in
    let flag : i ≡ j = same_flag_is i j p.1 in
    rw (guid, number, flag) refl
same_name_is (Direct a p i) (Direct b q j) e =
    let x = and_parts _ _ e in
    let y = and_parts _ _ x.0 in
    let host : a ≡ b = same_host_is a b y.0 in
    let queue : p ≡ q = same_bytes_is p q y.1 in
    let flag : i ≡ j = same_flag_is i j x.1 in
    rw (host, queue, flag) refl
same_name_is (Machine g k) (Machine h l) e = let p = and_parts _ _ e in ap₂ (λ x y. Machine x y) (same_guid_is g h p.0) (same_kind_is k l p.1)
same_name_is (Public g i) (Private h n j) e = absurd (true≢false (sym e))
same_name_is (Public g i) (Direct b q j) e = absurd (true≢false (sym e))
same_name_is (Public g i) (Machine h l) e = absurd (true≢false (sym e))
same_name_is (Private g m i) (Public h j) e = absurd (true≢false (sym e))
same_name_is (Private g m i) (Direct b q j) e = absurd (true≢false (sym e))
same_name_is (Private g m i) (Machine h l) e = absurd (true≢false (sym e))
same_name_is (Direct a p i) (Public h j) e = absurd (true≢false (sym e))
same_name_is (Direct a p i) (Private h n j) e = absurd (true≢false (sym e))
same_name_is (Direct a p i) (Machine h l) e = absurd (true≢false (sym e))
same_name_is (Machine g k) (Public h j) e = absurd (true≢false (sym e))
same_name_is (Machine g k) (Private h n j) e = absurd (true≢false (sym e))
same_name_is (Machine g k) (Direct b q j) e = absurd (true≢false (sym e))

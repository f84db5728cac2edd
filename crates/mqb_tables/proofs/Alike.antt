-- `==` of keys is the test of the definitions.
use Rattle.std.proofs.Common.{rules, ◌≡◌, ℕ, ◌==◌, ◌&&◌, Bool, cond, List, [], ◌∷◌, Option, Some, refl, sym, ap, ◌∙◌}
use Rattle.std.specs.Map.{lookup}
use Rattle.indexmap.specs.IndexMap.{IndexMap, get}
use Rattle.mqb_base.specs.Same.{same_guid, same_host, same_kind, same_name}
use Rattle.mqb_base.specs.contracts.queue_names.HostPartialEq.TheImpl as host_eq
use Rattle.mqb_base.specs.contracts.queue_names.MachineQueuePartialEq.TheImpl as kind_eq
use Rattle.mqb_base.specs.contracts.queue_names.QueueNamePartialEq.TheImpl as name_eq
use Rattle.mqb_base.specs.declared.queue_names.Host.{Host}
use Rattle.mqb_base.specs.declared.queue_names.Host.TheVariants.{Os, Tcp}
use Rattle.mqb_base.specs.declared.queue_names.MachineQueue.{MachineQueue}
use Rattle.mqb_base.specs.declared.queue_names.MachineQueue.TheVariants.{DeadLetter, DeadXact, Journal}
use Rattle.mqb_base.specs.declared.queue_names.QueueName.{QueueName}
use Rattle.mqb_orders.specs.contracts.keys.InKeyPartialEq.TheImpl as in_eq
use Rattle.mqb_orders.specs.contracts.keys.OutKeyPartialEq.TheImpl as out_eq
use Rattle.mqb_orders.specs.declared.keys.InKey.{InKey}
use Rattle.mqb_orders.specs.declared.keys.OutKey.{OutKey}
use Rattle.mqb_tables.specs.Keys.{same_in_key, same_out_key}

hosts : (a b : Host) → host_eq.ghosts.eq a b ≡ same_host a b
hosts (Os a) (Os b) = refl
hosts (Tcp a) (Tcp b) = refl
hosts (Os a) (Tcp b) = refl
hosts (Tcp a) (Os b) = refl

kinds : (a b : MachineQueue) → kind_eq.ghosts.eq a b ≡ same_kind a b
kinds DeadLetter DeadLetter = refl
kinds DeadXact DeadXact = refl
kinds Journal Journal = refl
kinds DeadLetter DeadXact = refl
kinds DeadLetter Journal = refl
kinds DeadXact DeadLetter = refl
kinds DeadXact Journal = refl
kinds Journal DeadLetter = refl
kinds Journal DeadXact = refl

names : (a b : QueueName) → name_eq.ghosts.eq a b ≡ same_name a b
names a b = search rules

pub in_keys_alike : (a b : InKey) → in_eq.ghosts.eq a b ≡ same_in_key a b
in_keys_alike a b = ap (λ t. same_guid a.source b.source && t) (names a.destination b.destination)

pub out_keys_alike : (a b : OutKey) → out_eq.ghosts.eq a b ≡ same_out_key a b
out_keys_alike a b = ap (λ t. (a.peer == b.peer) && t) (names a.destination b.destination)

-- tests that are alike find the same
module _ {K : Type 0} (p q : K → Bool) (alike : (x : K) → p x ≡ q x) where
  pub lookup_alike : {X : Type 0} (es : List (K × X)) → lookup p es ≡ lookup q es
  lookup_alike [] = refl
  lookup_alike (e ∷ es) = ap (λ b. cond b (Some e.1) (lookup p es)) (alike e.0) ∙ ap (λ o. cond (q e.0) (Some e.1) o) (lookup_alike es)

module _ {K S : Type 0} (eq same : K → K → Bool) (alike : (x y : K) → eq x y ≡ same x y) where
  pub get_alike : (m : IndexMap K ℕ S) (key : K) → get eq m key ≡ get same m key
  get_alike m key = lookup_alike (eq key) (same key) (alike key) m.entries

  pub updates_alike : (m n : IndexMap K ℕ S) (new : K) (w : Option ℕ) → ((key : K) → get eq n key ≡ cond (eq new key) w (get eq m key))
      → (key : K) → get same n key ≡ cond (same new key) w (get same m key)
  updates_alike m n new w updates key =
      sym (get_alike n key) ∙ (updates key ∙ (ap (λ b. cond b w (get eq m key)) (alike new key) ∙ ap (λ o. cond (same new key) w o) (get_alike m key)))

-- The manager is linked before a connection, and unlinked behind it.
use Rattle.std.proofs.Common.{◌≡◌, Err, None, Ok, Option, Result, List, ℕ, ap, cond, false, true, Bool, refl, subst, sym, ◌∙◌}
use Rattle.mqb_outside.specs.Disk.{View}
use Rattle.mqb_journal.specs.Causes.{FaultsAsSaid}
use Rattle.mqb_model.specs.calls.Link.{link, unlink}
use Rattle.mqb_model.specs.declared.answers.Role.{Role}
use Rattle.mqb_model.specs.managers.Manager.{Manager}
use Rattle.mqb_manager.specs.Calls.{Succeeds}
use Rattle.mqb_manager.specs.States.{IsOnDisk, IsUp, ManagerState, manager_of}
use Rattle.mqb_serving.specs.Conversations.{Conversation, End, StoredManager, linked, no_bytes, role_of, stored_after}
use Rattle.mqb_serving.specs.declared.purpose.Purpose.{Purpose}
use Rattle.mqb_serving.specs.declared.faults.ConnFault.{ConnFault}
use Rattle.mqb_serving.specs.declared.faults.ConnFault.TheVariants as fault
use Rattle.mqb_serving.specs.declared.faults.PeerFault.{PeerFault}
use Rattle.mqb_outside.specs.Faults.{Rose}
use Rattle.mqb_serving.specs.declared.limits.TheConstants.{WINDOW}
use Rattle.mqb_serving.specs.Serving.{Serves, ServesWhole, answer_of, is_disk_fault}
use Rattle.mqb_serving.specs.Steps.{Converses, Stands}
use Rattle.mqb_serving.proofs.Ending.{linked_stands, serves_end, serves_part, serves_stop, serves_whole}
use Rattle.mqb_manager.specs.Keeping.{KeepsDisk}
use Rattle.mqb_manager.specs.lemmas.Keeping.{keeping_goes_on, links_keep_disks, unlinks_keep_disks}
use Rattle.mqb_serve.specs.Talking.{stored_of}
use Rattle.mqb_serve.proofs.Calls.{quietly_up, stored_so}

pub disk_is : (why : ConnFault) → is_disk_fault why ≡ true → why ≡ fault.DiskFault
disk_is fault.DiskFault is = refl
disk_is why is = absurd (let wrong : ⊥ = cc in wrong)

pub not_disk : (why : ConnFault) → is_disk_fault why ≡ false → why ≡ fault.DiskFault → ⊥
not_disk why works is = let wrong : true ≡ false = sym (ap is_disk_fault is) ∙ works in true_false wrong
  where
    true_false : true ≡ false → ⊥
    true_false e = cc

-- The manager was linked.
module _ (m n : ManagerState) (asks : Purpose) (role : Role) (is_role : role ≡ role_of asks) (left : Succeeds m n (link (manager_of m) role WINDOW)) (journal : n.store.journal ≡ m.store.journal) where
  pub linked_up : IsUp m → IsUp n
  linked_up up = quietly_up m n (link (manager_of m) role WINDOW) left.manager up

  pub linked_keeps : (d : View) → KeepsDisk d d m n
  linked_keeps d = links_keep_disks d m n role WINDOW left journal

  pub linked_on : (d : View) → IsUp m → IsOnDisk d m → IsOnDisk d n
  linked_on d up on = (linked_keeps d).on (λ _. on) (linked_up up)

  -- It conversed.
  module _ (now : ℕ) (o : ManagerState) (h i x y : Option (List ℕ)) (r : Result End ConnFault)
      (converses : (c : Conversation) → Stands c asks now (stored_of n) no_bytes → Converses c h i x y (stored_of o) r) where
    conversed : Converses (linked (stored_of m) asks now) h i x y (stored_of o) r
    conversed = converses (linked (stored_of m) asks now) (linked_stands (stored_of m) (stored_of n) asks now
        (subst (λ (r : Role). stored_of n ≡ stored_after (stored_of m) (link (manager_of m) r WINDOW)) is_role (stored_so m n (link (manager_of m) role WINDOW) left)))

    -- and was unlinked
    module _ (p : ManagerState) (gone : Succeeds o p (unlink (manager_of o))) where
      left_so : stored_of p ≡ stored_after (stored_of o) (unlink (manager_of o))
      left_so = stored_so o p (unlink (manager_of o)) gone

      pub end_served : (end : End) → r ≡ Ok end → Serves asks now (stored_of m) (stored_of p) h i x y (answer_of end)
      end_served end is = serves_end (stored_of m) asks now h i x y (stored_of o) (stored_of p) end
          (subst (λ (q : Result End ConnFault). Converses (linked (stored_of m) asks now) h i x y (stored_of o) q) is conversed) left_so

      pub end_whole : (end : End) → r ≡ Ok end → ServesWhole (answer_of end) asks now (stored_of m) (stored_of p) h x y
      end_whole end is = serves_whole (stored_of m) asks now h i x y (stored_of o) (stored_of p) end
          (subst (λ (q : Result End ConnFault). Converses (linked (stored_of m) asks now) h i x y (stored_of o) q) is conversed) left_so

      pub cut_served : (why : ConnFault) → r ≡ Err why → (why ≡ fault.DiskFault → ⊥) → Serves asks now (stored_of m) (stored_of p) h i x y (Err why)
      cut_served why is works = serves_stop (stored_of m) asks now h i x y (stored_of o) (stored_of p) why
          (subst (λ (q : Result End ConnFault). Converses (linked (stored_of m) asks now) h i x y (stored_of o) q) is conversed)
          (λ broken. absurd (works broken)) (λ _. left_so)

      pub cut_whole : (why : ConnFault) → r ≡ Err why → ServesWhole (Err why) asks now (stored_of m) (stored_of p) h x y
      cut_whole why is = serves_part (stored_of m) asks now h i x y (stored_of o) (stored_of p) why
          (subst (λ (q : Result End ConnFault). Converses (linked (stored_of m) asks now) h i x y (stored_of o) q) is conversed)

      pub gone_unlinked : p.session ≡ None
      gone_unlinked = ap (λ (k : Manager). k.rest.session) gone.manager

      pub gone_up : IsUp o → IsUp p
      gone_up up = quietly_up o p (unlink (manager_of o)) gone.manager up

      pub gone_keeps : (d e : View) → p.store.journal ≡ o.store.journal → IsUp m → IsUp o → KeepsDisk d e n o → KeepsDisk d e m p
      gone_keeps d e same up still kept =
          keeping_goes_on d d e m n p (linked_keeps d) (linked_up up) (keeping_goes_on d e e n o p kept still (unlinks_keep_disks e o p gone same))

    -- or its disk failed
    pub down_served : (why : ConnFault) → r ≡ Err why → is_disk_fault why ≡ true → Serves asks now (stored_of m) (stored_of o) h i x y (Err why)
    down_served why is broken = serves_stop (stored_of m) asks now h i x y (stored_of o) (stored_of o) why
        (subst (λ (q : Result End ConnFault). Converses (linked (stored_of m) asks now) h i x y (stored_of o) q) is conversed)
        (λ _. refl) (λ works. absurd (works (disk_is why broken)))

    pub down_whole : (why : ConnFault) → r ≡ Err why → ServesWhole (Err why) asks now (stored_of m) (stored_of o) h x y
    down_whole why is = serves_part (stored_of m) asks now h i x y (stored_of o) (stored_of o) why
        (subst (λ (q : Result End ConnFault). Converses (linked (stored_of m) asks now) h i x y (stored_of o) q) is conversed)

    pub down_unlinked : (why : ConnFault) → r ≡ Err why → is_disk_fault why ≡ true → o.session ≡ None
    down_unlinked why is broken = let c = subst (λ (q : Result End ConnFault). Converses (linked (stored_of m) asks now) h i x y (stored_of o) q) (is ∙ ap Err (disk_is why broken)) conversed in
        ap (λ (k : StoredManager). k.manager.rest.session) c.ends.left.2

    pub down_keeps : (d e : View) → IsUp m → KeepsDisk d e n o → KeepsDisk d e m o
    down_keeps d e up kept = keeping_goes_on d d e m n o (linked_keeps d) (linked_up up) kept

-- A fault that is not the disk's.

pub up_but : (n : ManagerState) (why : ConnFault) → is_disk_fault why ≡ false → cond (is_disk_fault why) (Unit {0}) (IsUp n) → IsUp n
up_but n why works up = subst (λ (b : Bool). cond b (Unit {0}) (IsUp n)) works up

-- What is said of an end.
pub said_end : (says : ConnFault → Bool) (before after : ℕ) (end : End) → ((why : PeerFault) → says (fault.Peer why) ≡ false) → after ≡ before → FaultsAsSaid says before after (answer_of end)
said_end says before after (Ok done) never same = same
said_end says before after (Err why) never same = subst (λ (b : Bool). cond b (Rose before after) (after ≡ before)) (sym (never why)) same

-- States stand where a durable message meets a class.
use Rattle.std.proofs.Common.{refl, ap, sym, subst, ◌∙◌, ◌⊎◌, inr, arith}
use Rattle.std.proofs.lemmas.Bool.Decides.{nat_tests}
use Rattle.std.proofs.lemmas.List.Elements.{recursion_from_All}
use Rattle.std.specs.List.{AllByRecursion}
use Rattle.std.specs.Option.{option_map_or}
use Rattle.std.specs.Prelude.{◌&&◌, ◌+◌, ◌<◌, ◌==◌, ◌≡◌, ◌≤◌, Bool, IfSome, IsTrue, None, Option, Some, cond, false, nat_lt, option_and_then, slice_get, true, ℕ}
use Rattle.mqb_base.specs.Classes.{is_class}
use Rattle.mqb_base.specs.Lanes.{lane_of}
use Rattle.mqb_base.specs.Same.{same_guid}
use Rattle.mqb_base.specs.declared.class.Class.{Class}
use Rattle.mqb_base.specs.declared.ids.Guid.{Guid}
use Rattle.mqb_base.specs.declared.ids.Identity.{Identity}
use Rattle.mqb_base.specs.declared.message.Message.{Message}
use Rattle.mqb_base.specs.declared.queues.EntryPlace.{EntryPlace}
use Rattle.mqb_base.specs.declared.queues.EntryPlace.TheVariants as place
use Rattle.mqb_base.specs.declared.queues.Place.{Place}
use Rattle.mqb_fate.specs.Asking.{goes_dead}
use Rattle.mqb_packet.specs.mqb_heads.declared.base.TheConstants.{MAX_PACKET}
use Rattle.mqb_packet.specs.mqb_names.Values.{IsName}
use Rattle.mqb_packet.specs.Plain.{message_size}
use Rattle.mqb_packet.specs.declared.packet.Headers.TheVariants as headers
use Rattle.mqb_plain.specs.Plain.{pushed}
use Rattle.mqb_queue.specs.Places.{place_named}
use Rattle.mqb_model.specs.declared.target.Target.{Target}
use Rattle.mqb_model.specs.declared.target.Target.TheVariants.{AtPeer, Here, Nowhere}
use Rattle.mqb_model.specs.records.Packets.{is_recoverable, is_too_large}
use Rattle.mqb_model.specs.rules.Notices.{admin_about, admin_told, buried, final_about, final_told, final_told_at, may_go, meets, told}
use Rattle.mqb_model.specs.rules.Numbers.{number_taken, own_id}
use Rattle.mqb_model.specs.state.Places.{is_express, placed, put_at, with_plain}
use Rattle.mqb_model.specs.state.Resolving.{peer_known, resolved}
use Rattle.mqb_model.specs.state.State.{State}
use Rattle.mqb_model.specs.state.Valid.{IsCarried, IsOwn}
use Rattle.mqb_model.proofs.Holding.{get_holds}
use Rattle.mqb_model.proofs.Linking.{same_itself}
use Rattle.mqb_model.proofs.Members.{all_weaker}
use Rattle.mqb_model.proofs.Noticing.{IsNotice, admin_is, final_is}
use Rattle.mqb_model.proofs.Offering.{Differ}
use Rattle.mqb_model.proofs.Remaining.{IsFresh, IsPlaced, Stands, number_stands, pushed_stands, put_stands, waiting}

-- fewer headers make no packet longer
pub bare_small : (m : Message) → is_too_large headers.Session m ≡ false → is_too_large headers.Bare m ≡ false
bare_small m h = less (message_size headers.Bare m) (message_size headers.Session m) MAX_PACKET h (let fewer : message_size headers.Bare m ≤ message_size headers.Session m = omega arith in fewer)
  where
    less : (a b limit : ℕ) → nat_lt limit b ≡ false → a ≤ b → nat_lt limit a ≡ false
    less a b limit h le = grind (arith, nat_tests)

pub bare_carried : (m : Message) → IsCarried headers.Session m → IsCarried headers.Bare m
bare_carried m h = record { well_formed = h.well_formed; named = h.named; size = bare_small m h.size }

-- Identifiers with numbers that differ differ.

pub apart_numbers : (a b : ℕ) → a < b → (a == b) ≡ false
apart_numbers a b lt = grind (arith, nat_tests)

pub numbers_apart : (a b : ℕ) → a < b → (b == a) ≡ false
numbers_apart a b lt = grind (arith, nat_tests)

pub and_false : (a b : Bool) → b ≡ false → (a && b) ≡ false
and_false true b e = e
and_false false b e = refl

-- a message under the next number is new
pub next_is_fresh : (whose : Guid) (low high : ℕ) (s : State) (m : Message) → m.id ≡ own_id s s.next_number → Stands whose low high s
    → IsFresh whose low high (record s { next_number = s.next_number + 1 }) m
next_is_fresh whose low high s m own h = record {
  own = record {
    source = ap (λ id. same_guid id.qm s.identity.guid) own ∙ same_itself s.identity.guid.0;
    number = subst (λ id. id.number < s.next_number + 1) (sym own) (let last : s.next_number < s.next_number + 1 = omega arith in last);
  };
  before = all_weaker (IsOwn s.identity.guid s.next_number) (λ o. Differ o m)
      (λ o w. ap (λ id. same_guid o.id.qm id.qm && o.id.number == id.number) own ∙ and_false (same_guid o.id.qm s.identity.guid) (o.id.number == s.next_number) (apart_numbers o.id.number s.next_number w.number)) (waiting s) owns;
  behind = all_weaker (IsOwn s.identity.guid s.next_number) (Differ m)
      (λ o w. ap (λ id. same_guid id.qm o.id.qm && id.number == o.id.number) own ∙ and_false (same_guid s.identity.guid o.id.qm) (s.next_number == o.id.number) (numbers_apart o.id.number s.next_number w.number)) (waiting s) owns;
  apart = subst (λ id. (id.number < low) ⊎ (high ≤ id.number)) (sym own) (inr h.above);
}
  where
    owns : AllByRecursion (IsOwn s.identity.guid s.next_number) (waiting s)
    owns = recursion_from_All (IsOwn s.identity.guid s.next_number) (waiting s) h.valid.own

-- Notices.

notice_placed : (s : State) (n : Message) → IsNotice s n → IsPlaced n
notice_placed s n i = (bare_carried n i.carried, subst (λ x. is_express x ≡ false) (sym i.recoverable) refl)

taken_stands : (whose : Guid) (low high : ℕ) (s : State) (n : Message) → IsNotice s n → Stands whose low high s → Stands whose low high (number_taken s n.delivery)
taken_stands whose low high s n i h = subst (λ x. Stands whose low high (number_taken s x)) (sym i.recoverable) (number_stands whose low high s i.left h)

placed_stands : (whose : Guid) (low high : ℕ) (s : State) (t : Target) (n : Message) → IsNotice s n → Stands whose low high s → Stands whose low high (placed (number_taken s n.delivery) t n)
placed_stands whose low high s (Here None) n i h = taken_stands whose low high s n i h
placed_stands whose low high s (Here (Some q)) n i h = put_stands whose low high (number_taken s n.delivery) (place.Queue q) n (notice_placed s n i) (taken_stands whose low high s n i h)
placed_stands whose low high s (AtPeer k) n i h = subst (λ x. Stands whose low high (with_plain (pushed (lane_of x) n) (number_taken s x) k)) (sym i.recoverable)
    (pushed_stands whose low high (record s { next_number = s.next_number + 1 }) k n i.carried (ap is_recoverable i.recoverable)
    (next_is_fresh whose low high s n i.own h) (number_stands whose low high s i.left h))
placed_stands whose low high s Nowhere n i h = taken_stands whose low high s n i h

told_stands : (whose : Guid) (low high : ℕ) (s : State) (t : Target) (n : Message) → IsNotice s n → Stands whose low high s → Stands whose low high (told s t n)
told_stands whose low high s t n i h = at (may_go s t n.delivery)
  where
    at : (b : Bool) → Stands whose low high (cond b (placed (number_taken s n.delivery) t n) s)
    at true = placed_stands whose low high s t n i h
    at false = h

admin_stands : (whose : Guid) (low high : ℕ) (s : State) (m : Message) (class : Class) (now : ℕ) → IsPlaced m → IsTrue (is_class class.0) → Stands whose low high s
    → Stands whose low high (admin_told s m class now)
admin_stands whose low high s m class now p known h = at (admin_about s m class now) (admin_is s m class now p.1 known p.0.named.admin p.0.well_formed.admin)
  where
    at : (o : Option Message) → IfSome o (IsNotice s) → Stands whose low high (option_map_or (λ n. told s (resolved s n.destination) n) o s)
    at None i = h
    at (Some n) i = told_stands whose low high s (resolved s n.destination) n i h

final_stands : (whose : Guid) (low high : ℕ) (s : State) (m : Message) (class : Class) (now : ℕ) → IsTrue (is_class class.0) → Stands whose low high s
    → Stands whose low high (final_told s m class now)
final_stands whose low high s m class now known h = at (peer_known s m.id.qm)
  where
    made : (k : ℕ) (o : Option Message) → IfSome o (IsNotice s) → Stands whose low high (option_map_or (told s (AtPeer k)) o s)
    made k None i = h
    made k (Some n) i = told_stands whose low high s (AtPeer k) n i h

    to : (k : ℕ) (o : Option Identity) → IfSome o (λ peer. IsName peer.host) → Stands whose low high (option_map_or (λ peer. final_told_at s k peer m class now) o s)
    to k None host = h
    to k (Some peer) host = made k (final_about s peer m class now) (final_is s peer m class now known host)

    at : (o : Option ℕ) → Stands whose low high (option_map_or (λ k. option_map_or (λ peer. final_told_at s k peer m class now) (slice_get s.peers k) s) o s)
    at None = h
    at (Some k) = to k (slice_get s.peers k) (get_holds (λ p. IsName p.host) s.peers k (recursion_from_All (λ p. IsName p.host) s.peers h.valid.hosts))

buried_stands : (whose : Guid) (low high : ℕ) (s : State) (m : Message) (class : Class) → IsPlaced m → Stands whose low high s → Stands whose low high (buried s m class)
buried_stands whose low high s m class p h = at (goes_dead m class s.identity.guid)
  where
    into : (o : Option EntryPlace) → Stands whose low high (option_map_or (λ at. put_at s at m) o s)
    into None = h
    into (Some at) = put_stands whose low high s at m p h

    at : (o : Option Place) → Stands whose low high (option_map_or (λ at. put_at s at m) (option_and_then (place_named s.places.queues) o) s)
    at None = h
    at (Some p) = into (place_named s.places.queues p)

pub meets_stands : (whose : Guid) (low high : ℕ) (s : State) (m : Message) (class : Class) (now : ℕ) → IsPlaced m → IsTrue (is_class class.0) → Stands whose low high s
    → Stands whose low high (meets s m class now)
meets_stands whose low high s m class now p known h = let one = admin_told s m class now in let two = final_told one m class now in
    buried_stands whose low high two m class p (final_stands whose low high one m class now known (admin_stands whose low high s m class now p known h))

-- Connections and the packets that were sent in them.
use Rattle.std.proofs.Common.{refl, ap, sym, subst, ◌∙◌, arith, inl, inr}
use Rattle.std.specs.List.{AllByRecursion, list_any}
use Rattle.std.specs.Option.{option_map_or}
use Rattle.std.specs.Prelude.{[], ◌&&◌, ◌++◌, ◌==◌, ◌||◌, ◌∷◌, ◌≡◌, ◌⊎◌, Bool, List, None, Option, Some, cond, false, filter, find, length, not, replicate, slice_get, slice_set, suc, true, unwrap_or, zero, ℕ}
use Rattle.mqb_exactly_once.specs.Words.{In}
use Rattle.mqb_packet.specs.declared.packet.Packet.{Packet}
use Rattle.mqb_model.specs.Lists.{with_changed}
use Rattle.mqb_model.specs.managers.Manager.{Manager}
use Rattle.mqb_network.specs.Changes.{as_dropped, ended, ended_by, parted}
use Rattle.mqb_network.specs.Network.{Connection, Network, Note, connection_of, is_end, manager_at, nobody, other_end, with_manager}
use Rattle.mqb_history.specs.Orderly.{AreAllDisjoint, AreDisjoint}
use Rattle.mqb_history.proofs.Connections.{none_found}
use Rattle.mqb_history.proofs.Lists.{changed_apart, clash, equal_numbers, none_some, same_number, set_apart, some_is, true_not_false}
use Rattle.mqb_history.proofs.Outside.{filtered_in}

pub all_in : {X : Type 0} (P : X → Type 0) (xs : List X) (x : X) → AllByRecursion P xs → In x xs → P x
all_in P [] x h i = absurd i
all_in P (z ∷ zs) x h (inl e) = subst P e h.0
all_in P (z ∷ zs) x h (inr i) = all_in P zs x h.1 i

pub in_either : {X : Type 0} (xs ys : List X) (x : X) → In x (xs ++ ys) → In x xs ⊎ In x ys
in_either [] ys x i = inr i
in_either (z ∷ zs) ys x (inl e) = inl (inl e)
in_either (z ∷ zs) ys x (inr i) = at (in_either zs ys x i)
  where
    at : In x zs ⊎ In x ys → ((z ≡ x) ⊎ In x zs) ⊎ In x ys
    at (inl j) = inl (inr j)
    at (inr j) = inr j

pub in_any : {X : Type 0} (test : X → Bool) (xs : List X) (x : X) → In x xs → test x ≡ true → list_any test xs ≡ true
in_any test [] x i e = absurd i
in_any test (z ∷ zs) x (inl f) e = ap (λ b. b || list_any test zs) (ap test f ∙ e)
in_any test (z ∷ zs) x (inr i) e = ap (λ b. test z || b) (in_any test zs x i e) ∙ at (test z)
  where
    at : (b : Bool) → (b || true) ≡ true
    at true = refl
    at false = refl

pub any_in : {X : Type 0} (test : X → Bool) (xs : List X) → list_any test xs ≡ true → (x : X) × In x xs × (test x ≡ true)
any_in test [] e = absurd (clash (sym e))
any_in test (z ∷ zs) e = at (test z) refl e (λ f. any_in test zs f)
  where
    at : (b : Bool) → test z ≡ b → (b || list_any test zs) ≡ true → (list_any test zs ≡ true → (x : _) × In x zs × (test x ≡ true)) → (x : _) × In x (z ∷ zs) × (test x ≡ true)
    at true f g rest = (z, inl refl, f)
    at false f g rest = let more = rest g in (more.0, inr more.1, more.2)

-- Connections.

-- two managers are the ends of a connection
abbrev pub AreEnds : Connection → ℕ → ℕ → Type 0
AreEnds d i j = ((i ≡ d.first) × (j ≡ d.second)) ⊎ ((i ≡ d.second) × (j ≡ d.first))

pub ends_turn : (d : Connection) (i j : ℕ) → AreEnds d i j → AreEnds d j i
ends_turn d i j (inl e) = inr (e.1, e.0)
ends_turn d i j (inr e) = inl (e.1, e.0)

or_right : (b : Bool) → (b || true) ≡ true
or_right true = refl
or_right false = refl

pub first_end : (d : Connection) (i j : ℕ) → AreEnds d i j → is_end i d ≡ true
first_end d i j (inl e) = subst (λ k. ((d.first == k) || (d.second == k)) ≡ true) (sym e.0) (ap (λ b. b || (d.second == d.first)) (same_number d.first))
first_end d i j (inr e) = subst (λ k. ((d.first == k) || (d.second == k)) ≡ true) (sym e.0) (ap (λ b. (d.first == d.second) || b) (same_number d.second) ∙ or_right (d.first == d.second))

-- the other end
pub other_ends : (d : Connection) (i : ℕ) → is_end i d ≡ true → AreEnds d i (other_end i d)
other_ends d i e = at (d.first == i) refl (d.second == i) refl e
  where
    at : (b : Bool) → (d.first == i) ≡ b → (s : Bool) → (d.second == i) ≡ s → (b || s) ≡ true → AreEnds d i (cond b d.second d.first)
    at true f s g h = inl (sym (equal_numbers d.first i f), refl)
    at false f true g h = inr (sym (equal_numbers d.second i g), refl)
    at false f false g h = absurd (clash (sym h))

-- a manager is an end of one connection
pub end_found : (ds : List Connection) (d : Connection) (i : ℕ) → AreAllDisjoint ds → In d ds → is_end i d ≡ true → find (is_end i) ds ≡ Some d
end_found [] d i h j e = absurd j
end_found (z ∷ zs) d i h (inl f) e = ap (λ b. cond b (Some z) (find (is_end i) zs)) (subst (λ x. is_end i x ≡ true) (sym f) e) ∙ ap (λ x. Some x) f
end_found (z ∷ zs) d i h (inr j) e = at (is_end i z) refl (end_found zs d i h.1 j e)
  where
    at : (b : Bool) → is_end i z ≡ b → find (is_end i) zs ≡ Some d → cond b (Some z) (find (is_end i) zs) ≡ Some d
    at true f rest = absurd (true_not_false (is_end i d) e ((all_in (AreDisjoint z) zs d h.0 j).ends i f))
    at false f rest = rest

pub one_end_of : (ds : List Connection) (d e : Connection) (i : ℕ) → AreAllDisjoint ds → In d ds → In e ds → is_end i d ≡ true → is_end i e ≡ true → d ≡ e
one_end_of ds d e i h x y f g = some_is d e (sym (end_found ds d i h x f) ∙ end_found ds e i h y g)

-- numbers of connections differ
pub one_numbered : (ds : List Connection) (d e : Connection) → AreAllDisjoint ds → In d ds → In e ds → d.number ≡ e.number → d ≡ e
one_numbered [] d e h x y f = absurd x
one_numbered (z ∷ zs) d e h (inl x) (inl y) f = sym x ∙ y
one_numbered (z ∷ zs) d e h (inl x) (inr y) f = absurd (true_not_false (z.number == e.number)
    (subst (λ n. (n == e.number) ≡ true) (sym f ∙ ap (λ (w : Connection). w.number) (sym x)) (same_number e.number)) (all_in (AreDisjoint z) zs e h.0 y).numbers)
one_numbered (z ∷ zs) d e h (inr x) (inl y) f = absurd (true_not_false (z.number == d.number)
    (subst (λ n. (n == d.number) ≡ true) (f ∙ ap (λ (w : Connection). w.number) (sym y)) (same_number d.number)) (all_in (AreDisjoint z) zs d h.0 x).numbers)
one_numbered (z ∷ zs) d e h (inr x) (inr y) f = one_numbered zs d e h.1 x y f

found_in : (test : Connection → Bool) (ds : List Connection) (d : Connection) → find test ds ≡ Some d → In d ds × (test d ≡ true)
found_in test [] d e = absurd (none_some e)
found_in test (z ∷ zs) d e = at (test z) refl e (λ f. found_in test zs d f)
  where
    at : (b : Bool) → test z ≡ b → cond b (Some z) (find test zs) ≡ Some d → (find test zs ≡ Some d → In d zs × (test d ≡ true)) → In d (z ∷ zs) × (test d ≡ true)
    at true f g rest = (inl (some_is z d g), subst (λ x. test x ≡ true) (some_is z d g) f)
    at false f g rest = let more = rest g in (inr more.0, more.1)

pub connection_in : (n : Network) (i : ℕ) (d : Connection) → connection_of n i ≡ Some d → In d n.connections × (is_end i d ≡ true)
connection_in n i d e = found_in (is_end i) n.connections d e

pub filtered_passes : {X : Type 0} (test : X → Bool) (ds : List X) (d : X) → In d (filter test ds) → test d ≡ true
filtered_passes test [] d i = absurd i
filtered_passes test (z ∷ zs) d i = at (test z) refl i (λ j. filtered_passes test zs d j)
  where
    at : (b : Bool) → test z ≡ b → In d (cond b (z ∷ filter test zs) (filter test zs)) → (In d (filter test zs) → test d ≡ true) → test d ≡ true
    at true f (inl e) rest = subst (λ x. test x ≡ true) e f
    at true f (inr j) rest = rest j
    at false f j rest = rest j

-- A connection that stands once another ended: it stood before, and its ends are other managers.
pub record Outlives (n : Network) (x : ℕ) (d : Connection) : Type 0 where
  pub stood : In d n.connections
  pub apart : (k : ℕ) → is_end k d ≡ true → k ≡ x → ⊥
  pub same : (k : ℕ) → is_end k d ≡ true → manager_at (ended x n) k ≡ manager_at n k

pub outlives : (n : Network) (x : ℕ) (d : Connection) → AreAllDisjoint n.connections → In d (ended x n).connections → Outlives n x d
outlives n x d h i = at (connection_of n x) refl i
  where
    no_end : find (is_end x) n.connections ≡ None → In d n.connections → (k : ℕ) → is_end k d ≡ true → k ≡ x → ⊥
    no_end e j k f g = true_not_false (list_any (is_end x) n.connections) (in_any (is_end x) n.connections d j (subst (λ y. is_end y d ≡ true) g f)) (none_found (is_end x) n.connections e)

    differ : (e : Connection) → In e n.connections → In d n.connections → not (d.number == e.number) ≡ true → (k : ℕ) → is_end k d ≡ true → is_end k e ≡ false
    differ e there j f k g = by (is_end k e) refl
      where
        by : (b : Bool) → is_end k e ≡ b → b ≡ false
        by false w = refl
        by true w = absurd (clash (sym (sym (ap not (subst (λ (y : Connection). (d.number == y.number) ≡ true) (one_end_of n.connections d e k h j there g w) (same_number d.number))) ∙ f)))

    not_first : (e : Connection) (k : ℕ) → is_end k e ≡ false → e.first ≡ k → ⊥
    not_first e k f g = clash (subst (λ b. (b || (e.second == k)) ≡ false) (subst (λ y. (e.first == y) ≡ true) g (same_number e.first)) f)

    not_second : (e : Connection) (k : ℕ) → is_end k e ≡ false → e.second ≡ k → ⊥
    not_second e k f g = clash (sym (or_right (e.first == k)) ∙ subst (λ b. ((e.first == k) || b) ≡ false) (subst (λ y. (e.second == y) ≡ true) g (same_number e.second)) f)

    at : (o : Option Connection) → connection_of n x ≡ o → In d (option_map_or (ended_by n) o n).connections → Outlives n x d
    at None e j = record {
      stood = j;
      apart = no_end e j;
      same = λ k f. ap (λ (o : Option Connection). manager_at (option_map_or (ended_by n) o n) k) e;
    }
    at (Some e) f j = record {
      stood = filtered_in (λ (y : Connection). not (y.number == e.number)) n.connections d j;
      apart = λ k g w. true_not_false (is_end k e) (subst (λ y. is_end y e ≡ true) (sym w) (connection_in n x e f).1) (apart k g);
      same = λ k g. ap (λ (o : Option Connection). manager_at (option_map_or (ended_by n) o n) k) f
          ∙ ap (λ (o : Option Manager). unwrap_or o nobody) (changed_apart parted (with_changed parted n.managers e.first) e.second k (not_second e k (apart k g))
          ∙ changed_apart parted n.managers e.first k (not_first e k (apart k g)));
    }
      where
        apart : (k : ℕ) → is_end k d ≡ true → is_end k e ≡ false
        apart = differ e (connection_in n x e f).0 (filtered_in (λ (y : Connection). not (y.number == e.number)) n.connections d j)
            (filtered_passes (λ (y : Connection). not (y.number == e.number)) n.connections d j)

pub elsewhere : (n : Network) (i j : ℕ) (m : Manager) → (i ≡ j → ⊥) → manager_at (with_manager n i m) j ≡ manager_at n j
elsewhere n i j m apart = ap (λ (o : Option Manager). unwrap_or o nobody) (set_apart n.managers i j m apart)

-- Packets.

-- the packets that a manager sent in a connection
abbrev pub from_sender : ℕ → ℕ → List Note → List Packet → List Packet
from_sender d i [] xs = []
from_sender d i (note ∷ notes) [] = []
from_sender d i (note ∷ notes) (x ∷ xs) = cond ((note.connection == d) && (note.sender == i)) (x ∷ from_sender d i notes xs) (from_sender d i notes xs)

pub from_append : (d i : ℕ) (notes more : List Note) (xs zs : List Packet) → length notes ≡ length xs → from_sender d i (notes ++ more) (xs ++ zs) ≡ from_sender d i notes xs ++ from_sender d i more zs
from_append d i [] more [] zs e = refl
from_append d i [] more (x ∷ xs) zs e = absurd (omega (arith, e))
from_append d i (note ∷ notes) more [] zs e = absurd (omega (arith, e))
from_append d i (note ∷ notes) more (x ∷ xs) zs e = at ((note.connection == d) && (note.sender == i)) (from_append d i notes more xs zs (omega (arith, e)))
  where
    at : (b : Bool) → from_sender d i (notes ++ more) (xs ++ zs) ≡ from_sender d i notes xs ++ from_sender d i more zs
        → cond b (x ∷ from_sender d i (notes ++ more) (xs ++ zs)) (from_sender d i (notes ++ more) (xs ++ zs)) ≡ cond b (x ∷ from_sender d i notes xs) (from_sender d i notes xs) ++ from_sender d i more zs
    at true rest = ap (λ ys. x ∷ ys) rest
    at false rest = rest

either_same : (b : Bool) (xs : List Packet) → xs ≡ cond b xs xs
either_same true xs = refl
either_same false xs = refl

pub from_new : (d i : ℕ) (note : Note) (zs : List Packet) → from_sender d i (replicate (length zs) note) zs ≡ cond ((note.connection == d) && (note.sender == i)) zs []
from_new d i note [] = either_same ((note.connection == d) && (note.sender == i)) []
from_new d i note (z ∷ zs) = at ((note.connection == d) && (note.sender == i)) (from_new d i note zs)
  where
    at : (b : Bool) → from_sender d i (replicate (length zs) note) zs ≡ cond b zs []
        → cond b (z ∷ from_sender d i (replicate (length zs) note) zs) (from_sender d i (replicate (length zs) note) zs) ≡ cond b (z ∷ zs) []
    at true rest = ap (λ ys. z ∷ ys) rest
    at false rest = rest

pub from_dropped : (d i : ℕ) (notes : List Note) (k : ℕ) (x : Note) (xs : List Packet) → slice_get notes k ≡ Some x → from_sender d i (slice_set notes k (as_dropped x)) xs ≡ from_sender d i notes xs
from_dropped d i [] k x xs e = refl
from_dropped d i (note ∷ notes) zero x [] e = refl
from_dropped d i (note ∷ notes) zero x (y ∷ ys) e = ap (λ (z : Note). cond ((z.connection == d) && (z.sender == i)) (y ∷ from_sender d i notes ys) (from_sender d i notes ys)) (sym (some_is note x e))
from_dropped d i (note ∷ notes) (suc k) x [] e = refl
from_dropped d i (note ∷ notes) (suc k) x (y ∷ ys) e = ap (λ zs. cond ((note.connection == d) && (note.sender == i)) (y ∷ zs) zs) (from_dropped d i notes k x ys e)

pub record IsSameNote (old note : Note) : Type 0 where
  pub sender : old.sender ≡ note.sender
  pub receiver : old.receiver ≡ note.receiver
  pub connection : old.connection ≡ note.connection

pub in_dropped : (notes : List Note) (k : ℕ) (x note : Note) → slice_get notes k ≡ Some x → In note (slice_set notes k (as_dropped x)) → (old : Note) × In old notes × IsSameNote old note
in_dropped [] k x note e i = absurd i
in_dropped (z ∷ zs) zero x note e (inl f) = (
  x,
  inl (some_is z x e),
  record {
    sender = ap (λ (y : Note). y.sender) f;
    receiver = ap (λ (y : Note). y.receiver) f;
    connection = ap (λ (y : Note). y.connection) f;
  },
)
in_dropped (z ∷ zs) zero x note e (inr j) = (note, inr j, record { sender = refl; receiver = refl; connection = refl })
in_dropped (z ∷ zs) (suc k) x note e (inl f) = (note, inl f, record { sender = refl; receiver = refl; connection = refl })
in_dropped (z ∷ zs) (suc k) x note e (inr j) = let more = in_dropped zs k x note e j in (more.0, inr more.1, more.2)

-- a packet of a note is among those of its sender
pub sent_in : (d i : ℕ) (notes : List Note) (xs : List Packet) (k : ℕ) (note : Note) (x : Packet) → slice_get notes k ≡ Some note → slice_get xs k ≡ Some x
    → note.connection ≡ d → note.sender ≡ i → In x (from_sender d i notes xs)
sent_in d i [] xs k note x e f c s = absurd (none_some e)
sent_in d i (z ∷ zs) [] k note x e f c s = absurd (none_some f)
sent_in d i (z ∷ zs) (y ∷ ys) zero note x e f c s = subst (λ b. In x (cond b (y ∷ from_sender d i zs ys) (from_sender d i zs ys))) (sym test) (inl (some_is y x f))
  where
    test : ((z.connection == d) && (z.sender == i)) ≡ true
    test = ap (λ (w : Note). (w.connection == d) && (w.sender == i)) (some_is z note e) ∙ subst (λ n. ((n == d) && (note.sender == i)) ≡ true) (sym c)
        (subst (λ n. ((d == d) && (n == i)) ≡ true) (sym s) (ap (λ b. b && (i == i)) (same_number d) ∙ same_number i))
sent_in d i (z ∷ zs) (y ∷ ys) (suc k) note x e f c s = at ((z.connection == d) && (z.sender == i)) (sent_in d i zs ys k note x e f c s)
  where
    at : (b : Bool) → In x (from_sender d i zs ys) → In x (cond b (y ∷ from_sender d i zs ys) (from_sender d i zs ys))
    at true j = inr j
    at false j = j

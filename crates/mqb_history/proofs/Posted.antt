-- Each transfer of the world, and each acknowledgement, is a packet that was sent.
use Rattle.std.proofs.Common.{refl, ap, sym, ◌∙◌, arith, inl, inr}
use Rattle.std.specs.Prelude.{[], ◌+◌, ◌-◌, ◌++◌, ◌<◌, ◌==◌, ◌∷◌, ◌≡◌, ◌⊎◌, Bool, List, None, Some, cond, false, length, replicate, slice_get, suc, true, zero, ℕ}
use Rattle.mqb_base.specs.declared.queue_names.QueueName.{QueueName}
use Rattle.mqb_exactly_once.specs.Words.{In}
use Rattle.mqb_exactly_once.specs.World.{Commitment, FinalAck, OrderAck, Transfer}
use Rattle.mqb_network.specs.Network.{Note}
use Rattle.mqb_packet.specs.declared.packet.Packet.{Packet}
use Rattle.mqb_packet.specs.declared.packet.Packet.TheVariants as packet
use Rattle.mqb_packet.specs.declared.packet.UserPacket.{UserPacket}
use Rattle.mqb_queue.specs.Places.{numbered}
use Rattle.mqb_history.specs.Shown.{AreAcksSent, AreFinalsSent, AreTransfersSent, CarriesAck, CarriesFinal, CarriesTransfer, Went}
use Rattle.mqb_history.proofs.Dispatching.{IsFromPacket}
use Rattle.mqb_history.proofs.Lists.{none_some, numbered_behind}
use Rattle.mqb_history.proofs.Receipting.{HasTold}

-- a note is an old one, but for its mark
pub record IsSameNoteAt (notes : List Note) (k : ℕ) (note : Note) : Type 0 where
  pub old : Note
  pub there : numbered notes k ≡ Some old
  pub sender : old.sender ≡ note.sender
  pub receiver : old.receiver ≡ note.receiver
  pub connection : old.connection ≡ note.connection
  pub moment : old.moment ≡ note.moment

-- Places in lists.

get_front : {X : Type 0} (xs ys : List X) (k : ℕ) (x : X) → slice_get xs k ≡ Some x → slice_get (xs ++ ys) k ≡ Some x
get_front [] ys k x e = absurd (none_some e)
get_front (z ∷ xs) ys zero x e = e
get_front (z ∷ xs) ys (suc k) x e = get_front xs ys k x e

pub numbered_front : {X : Type 0} (xs ys : List X) (k : ℕ) (x : X) → numbered xs k ≡ Some x → numbered (xs ++ ys) k ≡ Some x
numbered_front {X} xs ys k x e = at (k == 0) e
  where
    at : (b : Bool) → cond b None (slice_get xs (k - 1)) ≡ Some x → cond b None (slice_get (xs ++ ys) (k - 1)) ≡ Some x
    at true f = absurd (none_some f)
    at false f = get_front xs ys (k - 1) x f

place_in : {X : Type 0} (xs : List X) (x : X) → In x xs → (n : ℕ) × (n < length xs) × (slice_get xs n ≡ Some x)
place_in [] x i = absurd i
place_in (z ∷ xs) x (inl e) = (zero, omega arith, ap (λ y. Some y) e)
place_in (z ∷ xs) x (inr i) = let g = place_in xs x i in (suc g.0, let lt = g.1 in omega (arith, lt), g.2)

replicate_get : {X : Type 0} (len n : ℕ) (x : X) → n < len → slice_get (replicate len x) n ≡ Some x
replicate_get zero n x lt = absurd (omega (arith, lt))
replicate_get (suc len) zero x lt = refl
replicate_get (suc len) (suc n) x lt = replicate_get len n x (omega (arith, lt))

-- What was sent.

module _ (Is : Note → UserPacket → Type 0) where
  -- it stays sent
  went_on : (notes more : List Note) (sent zs : List Packet) → Went notes sent Is → Went (notes ++ more) (sent ++ zs) Is
  went_on notes more sent zs g = record {
    place = g.place;
    note = g.note;
    user = g.user;
    noted = numbered_front notes more g.place g.note g.noted;
    there = numbered_front sent zs g.place (packet.User g.user) g.there;
    is = g.is;
  }

  went_behind : (notes : List Note) (sent zs : List Packet) → Went notes sent Is → Went notes (sent ++ zs) Is
  went_behind notes sent zs g = record { place = g.place; note = g.note; user = g.user; noted = g.noted; there = numbered_front sent zs g.place (packet.User g.user) g.there; is = g.is }

  pub went_weaker : (Other : Note → UserPacket → Type 0) → ((note : Note) (user : UserPacket) → Is note user → Other note user) → (notes : List Note) (sent : List Packet) → Went notes sent Is → Went notes sent Other
  went_weaker Other f notes sent g = record { place = g.place; note = g.note; user = g.user; noted = g.noted; there = g.there; is = f g.note g.user g.is }

  -- notes may be marked
  went_marked : (notes others : List Note) (sent : List Packet) → ((k : ℕ) (note : Note) → numbered notes k ≡ Some note → IsSameNoteAt others k note)
      → ((a b : Note) (user : UserPacket) → b.sender ≡ a.sender → b.receiver ≡ a.receiver → b.moment ≡ a.moment → Is a user → Is b user) → Went notes sent Is → Went others sent Is
  went_marked notes others sent keeps marked g = let n = keeps g.place g.note g.noted in
      record { place = g.place; note = n.old; user = g.user; noted = n.there; there = g.there; is = marked g.note n.old g.user n.sender n.receiver n.moment g.is }

  -- a packet is posted
  went_now : (notes : List Note) (sent zs : List Packet) (note : Note) (user : UserPacket) → length notes ≡ length sent → In (packet.User user) zs → Is note user
      → Went (notes ++ replicate (length zs) note) (sent ++ zs) Is
  went_now notes sent zs note user noted inside is = let place = place_in zs (packet.User user) inside in record {
    place = length notes + 1 + place.0;
    note = note;
    user = user;
    noted = numbered_behind notes (replicate (length zs) note) place.0 ∙ replicate_get (length zs) place.0 note place.1;
    there = ap (λ n. numbered (sent ++ zs) (n + 1 + place.0)) noted ∙ numbered_behind sent zs place.0 ∙ place.2;
    is = is;
  }

module _ (i j : ℕ) where
  -- transfers
  pub sent_still : (d : QueueName) (notes more : List Note) (sent zs : List Packet) (ts : List Transfer) → AreTransfersSent i j d notes sent ts → AreTransfersSent i j d (notes ++ more) (sent ++ zs) ts
  sent_still d notes more sent zs ts h t inside = went_on (CarriesTransfer i j d t) notes more sent zs (h t inside)

  pub sent_behind : (d : QueueName) (notes : List Note) (sent zs : List Packet) (ts : List Transfer) → AreTransfersSent i j d notes sent ts → AreTransfersSent i j d notes (sent ++ zs) ts
  sent_behind d notes sent zs ts h t inside = went_behind (CarriesTransfer i j d t) notes sent zs (h t inside)

  pub sent_marked : (d : QueueName) (notes others : List Note) (sent : List Packet) (ts : List Transfer) → ((k : ℕ) (note : Note) → numbered notes k ≡ Some note → IsSameNoteAt others k note)
      → AreTransfersSent i j d notes sent ts → AreTransfersSent i j d others sent ts
  sent_marked d notes others sent ts keeps h t inside = went_marked (CarriesTransfer i j d t) notes others sent keeps (λ a b user from into at g. record {
    head = g.head;
    stream = g.stream;
    sender = from ∙ g.sender;
    receiver = into ∙ g.receiver;
    to = g.to;
    is = record { head = g.is.head; message = g.is.message; sent_at = g.is.sent_at ∙ sym at };
  }) (h t inside)

  pub posted_sent : (d : QueueName) (notes : List Note) (sent zs : List Packet) (note : Note) (olds news : List Transfer) → length notes ≡ length sent → note.sender ≡ i → note.receiver ≡ j
      → ((t : Transfer) → In t news → In t olds ⊎ IsFromPacket d zs note.moment t) → AreTransfersSent i j d notes sent olds
      → AreTransfersSent i j d (notes ++ replicate (length zs) note) (sent ++ zs) news
  posted_sent d notes sent zs note olds news noted from into only h t inside = at (only t inside)
    where
      at : In t olds ⊎ IsFromPacket d zs note.moment t → Went (notes ++ replicate (length zs) note) (sent ++ zs) (CarriesTransfer i j d t)
      at (inl old) = sent_still d notes (replicate (length zs) note) sent zs olds h t old
      at (inr g) = went_now (CarriesTransfer i j d t) notes sent zs note g.user noted g.of.0 (record {
        head = g.head;
        stream = g.of.1;
        sender = from;
        receiver = into;
        to = g.of.2;
        is = record { head = g.is_head; message = g.message; sent_at = g.sent_at };
      })

  -- order acknowledgements
  pub acks_still : (notes more : List Note) (sent zs : List Packet) (acks : List OrderAck) → AreAcksSent i j notes sent acks → AreAcksSent i j (notes ++ more) (sent ++ zs) acks
  acks_still notes more sent zs acks h a inside = went_on (CarriesAck i j a) notes more sent zs (h a inside)

  pub acks_behind : (notes : List Note) (sent zs : List Packet) (acks : List OrderAck) → AreAcksSent i j notes sent acks → AreAcksSent i j notes (sent ++ zs) acks
  acks_behind notes sent zs acks h a inside = went_behind (CarriesAck i j a) notes sent zs (h a inside)

  pub acks_marked : (notes others : List Note) (sent : List Packet) (acks : List OrderAck) → ((k : ℕ) (note : Note) → numbered notes k ≡ Some note → IsSameNoteAt others k note)
      → AreAcksSent i j notes sent acks → AreAcksSent i j others sent acks
  acks_marked notes others sent acks keeps h a inside = went_marked (CarriesAck i j a) notes others sent keeps
      (λ x y user from into at g. record { plain = g.plain; acks = g.acks; sender = from ∙ g.sender; receiver = into ∙ g.receiver; spelled = g.spelled }) (h a inside)

  pub acks_posted : (notes : List Note) (sent zs : List Packet) (note : Note) (olds news : List OrderAck) → length notes ≡ length sent → note.sender ≡ j → note.receiver ≡ i
      → ((a : OrderAck) → In a news → In a olds ⊎ HasTold zs a.position) → AreAcksSent i j notes sent olds → AreAcksSent i j (notes ++ replicate (length zs) note) (sent ++ zs) news
  acks_posted notes sent zs note olds news noted from into only h a inside = at (only a inside)
    where
      at : In a olds ⊎ HasTold zs a.position → Went (notes ++ replicate (length zs) note) (sent ++ zs) (CarriesAck i j a)
      at (inl old) = acks_still notes (replicate (length zs) note) sent zs olds h a old
      at (inr g) = went_now (CarriesAck i j a) notes sent zs note g.user noted g.there (record { plain = g.plain; acks = g.acks; sender = from; receiver = into; spelled = g.spelled })

  -- final ones
  pub finals_more : (olds news : List Commitment) (a : FinalAck) (note : Note) (user : UserPacket) → ((x : Commitment) → In x olds → In x news) → CarriesFinal i j olds a note user → CarriesFinal i j news a note user
  finals_more olds news a note user more h = record {
    plain = h.plain;
    final = h.final;
    ends = h.ends;
    commitment = h.commitment;
    there = more h.commitment h.there;
    names = h.names;
    position = h.position;
    fate = h.fate;
  }

  pub finals_still : (cs : List Commitment) (notes more : List Note) (sent zs : List Packet) (acks : List FinalAck) → AreFinalsSent i j cs notes sent acks → AreFinalsSent i j cs (notes ++ more) (sent ++ zs) acks
  finals_still cs notes more sent zs acks h a inside = went_on (CarriesFinal i j cs a) notes more sent zs (h a inside)

  pub finals_behind : (cs : List Commitment) (notes : List Note) (sent zs : List Packet) (acks : List FinalAck) → AreFinalsSent i j cs notes sent acks → AreFinalsSent i j cs notes (sent ++ zs) acks
  finals_behind cs notes sent zs acks h a inside = went_behind (CarriesFinal i j cs a) notes sent zs (h a inside)

  pub finals_marked : (cs : List Commitment) (notes others : List Note) (sent : List Packet) (acks : List FinalAck) → ((k : ℕ) (note : Note) → numbered notes k ≡ Some note → IsSameNoteAt others k note)
      → AreFinalsSent i j cs notes sent acks → AreFinalsSent i j cs others sent acks
  finals_marked cs notes others sent acks keeps h a inside = went_marked (CarriesFinal i j cs a) notes others sent keeps (λ x y user from into at g. record {
    plain = g.plain;
    final = g.final;
    ends = (from ∙ g.ends.0, into ∙ g.ends.1);
    commitment = g.commitment;
    there = g.there;
    names = g.names;
    position = g.position;
    fate = g.fate;
  }) (h a inside)

-- Which fates the final acknowledgements tell that were sent of a channel, and that they are known.
use Rattle.std.proofs.Common.{refl, ap, sym, subst, ◌∙◌, inl, inr}
use Rattle.std.specs.Prelude.{[], ◌&&◌, ◌+◌, ◌++◌, ◌-◌, ◌==◌, ◌∷◌, ◌≡◌, ◌⊎◌, Bool, List, None, Option, Some, cond, false, filter_map, is_none, reverse, slice_get, suc, true, zero, ℕ}
use Rattle.mqb_base.specs.Same.{same_guid, same_id, same_name}
use Rattle.mqb_base.specs.declared.heads.TxHead.{TxHead}
use Rattle.mqb_base.specs.declared.ids.MessageId.{MessageId}
use Rattle.mqb_base.specs.declared.ledger.Line.{Line}
use Rattle.mqb_base.specs.declared.message.Message.{Message}
use Rattle.mqb_base.specs.declared.queue_names.QueueName.{QueueName}
use Rattle.mqb_exactly_once.specs.Outcomes.{MessageFate, Was_put, Was_refused}
use Rattle.mqb_exactly_once.specs.Words.{In}
use Rattle.mqb_exactly_once.specs.World.{Channel, Commitment, Decision, KnownFate}
use Rattle.mqb_network.specs.Courses.{Course, Written}
use Rattle.mqb_network.specs.Laws.{lines_written}
use Rattle.mqb_network.specs.Network.{Note}
use Rattle.mqb_packet.specs.declared.packet.Packet.{Packet}
use Rattle.mqb_packet.specs.declared.packet.Packet.TheVariants as packet
use Rattle.mqb_packet.specs.declared.packet.UserPacket.{UserPacket}
use Rattle.mqb_queue.specs.Places.{numbered}
use Rattle.mqb_history.specs.Committed.{commitments, commitments_in}
use Rattle.mqb_history.specs.Decided.{written_of}
use Rattle.mqb_history.specs.Fates.{CameTo, departure_line}
use Rattle.mqb_history.specs.Shown.{CarriesFinal, Went, commitments_to, decisions_made, fate_of, is_final_ack, to_destination}
use Rattle.mqb_history.proofs.Between.{in_either}
use Rattle.mqb_history.proofs.Believing.{same_id_is}
use Rattle.mqb_history.proofs.Committing.{in_append}
use Rattle.mqb_history.proofs.Lists.{equal_numbers, join_and, none_some, numbered_behind, same_number, some_is, split_and}
use Rattle.mqb_history.proofs.Names.{same_guid_refl, same_name_is, same_name_refl}
use Rattle.mqb_history.proofs.Noticed.{flat_in, in_flat}
use Rattle.mqb_history.proofs.Reaching.{chosen_from, chosen_in, in_reverse, in_reversed, in_right}
use Rattle.mqb_history.proofs.Settling.{told_now}

-- What each final acknowledgement tells, that was ever sent from the destination of a channel to its source and names a commitment there: the destination's records decided that, and
-- its lines say that it came to this fate.
abbrev pub TellFates : Course → (i j : ℕ) → Channel → QueueName → Type 0
TellFates c i j ch d = (k : ℕ) (note : Note) (p : UserPacket) → numbered c.network.notes k ≡ Some note → numbered c.sent k ≡ Some (packet.User p) → p.tx ≡ None → is_final_ack p.message ≡ true
    → note.sender ≡ j → note.receiver ≡ i → (m : Commitment) → In m (commitments (written_of i c.written)) → m.message.destination ≡ d → m.message.id ≡ p.message.correlation
    → (x : Decision) × In x (decisions_made ch (written_of j c.written)) × (x.position ≡ m.position) × CameTo (lines_written (written_of j c.written)) x (fate_of p.message.class)

-- Commitments to a destination.

pub committed_to : (d : QueueName) (cs : List Commitment) (x : Commitment) → In x (reverse (commitments_to d cs)) → In x cs × (x.message.destination ≡ d)
committed_to d cs x inside = let y = chosen_from (to_destination d) cs x (in_reversed (commitments_to d cs) x inside) in let same = is_to y.0 y.2 in (subst (λ z. In z cs) same.0 y.1, subst (λ (z : Commitment). z.message.destination ≡ d) same.0 same.1)
  where
    is_to : (y : Commitment) → to_destination d y ≡ Some x → (y ≡ x) × (y.message.destination ≡ d)
    is_to y g = at (same_name y.message.destination d) refl g
      where
        at : (b : Bool) → same_name y.message.destination d ≡ b → cond b (Some y) None ≡ Some x → (y ≡ x) × (y.message.destination ≡ d)
        at true m n = (some_is y x n, same_name_is y.message.destination d m)
        at false m n = absurd (none_some n)

pub to_committed : (d : QueueName) (cs : List Commitment) (x : Commitment) → In x cs → x.message.destination ≡ d → In x (reverse (commitments_to d cs))
to_committed d cs x inside to = in_reverse (commitments_to d cs) x (chosen_in (to_destination d) cs x x inside
    (ap (λ b. cond b (Some x) None) (subst (λ n. same_name x.message.destination n ≡ true) to (same_name_refl x.message.destination))))

pub commitments_grow : (ws vs : List Written) (x : Commitment) → In x (commitments ws) → In x (commitments (ws ++ vs))
commitments_grow ws vs x inside = let w = in_flat (λ (v : Written). commitments_in v.before v.entry) ws x inside in
    flat_in (λ (v : Written). commitments_in v.before v.entry) (ws ++ vs) w.0 x (in_append ws vs w.0 w.1) w.2

-- a decision came to a fate by more lines
pub came_more : (ls more : List Line) (x : Decision) (fate : MessageFate) → ((l : Line) → In l ls → In l more) → CameTo ls x fate → CameTo more x fate
came_more ls more x (Was_refused reason) grows h = h
came_more ls more x (Was_put departure) grows h = (h.0, grows (departure_line departure x.message.id) h.1)

pub same_id_refl : (id : MessageId) → same_id id id ≡ true
same_id_refl id = join_and (same_guid id.qm id.qm) (id.number == id.number) (same_guid_refl id.qm) (same_number id.number)

module _ (i j : ℕ) (cs : List Commitment) where
  -- what a message tells of a commitment that it names
  abbrev fate_told : Message → Commitment → Option KnownFate
  fate_told m x = cond (same_id x.message.id m.correlation) (Some (record { position = x.position; fate = fate_of m.class })) None

  -- a packet is a final acknowledgement that went back
  abbrev pub goes_back : Note → UserPacket → Bool
  goes_back note p = (is_none p.tx && is_final_ack p.message) && ((note.sender == j) && (note.receiver == i))

  abbrev fates_in : Note → Packet → List KnownFate
  fates_in note (packet.User p) = cond (goes_back note p) (filter_map (fate_told p.message) cs) []
  fates_in note _ = []

  -- the fates that are told by those that were sent
  abbrev pub finals_in : List Note → List Packet → List KnownFate
  finals_in [] xs = []
  finals_in (note ∷ notes) [] = []
  finals_in (note ∷ notes) (x ∷ xs) = fates_in note x ++ finals_in notes xs

  none_tx : (o : Option TxHead) → is_none o ≡ true → o ≡ None
  none_tx None e = refl
  none_tx (Some tx) e = absurd (let none : ⊥ = cc in none)

  -- each is told by a packet
  carried : (n : ℕ) (note : Note) (p : UserPacket) (f : KnownFate) → In f (fates_in note (packet.User p)) → CarriesFinal i j cs (told_now n f) note p
  carried n note p f inside = at (goes_back note p) refl inside
    where
      of : goes_back note p ≡ true → (x : Commitment) → In x cs → (b : Bool) → same_id x.message.id p.message.correlation ≡ b
          → cond b (Some (record { position = x.position; fate = fate_of p.message.class })) None ≡ Some f → CarriesFinal i j cs (told_now n f) note p
      of e x there false g same = absurd (none_some same)
      of e x there true g same = let tests = split_and (is_none p.tx && is_final_ack p.message) ((note.sender == j) && (note.receiver == i)) e in
          let kinds = split_and (is_none p.tx) (is_final_ack p.message) tests.0 in let ends = split_and (note.sender == j) (note.receiver == i) tests.1 in
          let fate = some_is (record { position = x.position; fate = fate_of p.message.class }) f same in record {
            plain = none_tx p.tx kinds.0;
            final = kinds.1;
            ends = (equal_numbers note.sender j ends.0, equal_numbers note.receiver i ends.1);
            commitment = x;
            there = there;
            names = same_id_is x.message.id p.message.correlation g;
            position = ap (λ (y : KnownFate). y.position) (sym fate);
            fate = ap (λ (y : KnownFate). y.fate) (sym fate);
          }

      at : (b : Bool) → goes_back note p ≡ b → In f (cond b (filter_map (fate_told p.message) cs) []) → CarriesFinal i j cs (told_now n f) note p
      at false e j = absurd j
      at true e j = let x = chosen_from (fate_told p.message) cs f j in of e x.0 x.1 (same_id x.0.message.id p.message.correlation) refl x.2

  -- where it stands among those that were sent
  record IsAt (notes : List Note) (sent : List Packet) (Is : Note → UserPacket → Type 0) : Type 0 where
    pub index : ℕ
    pub note : Note
    pub user : UserPacket
    pub noted : slice_get notes index ≡ Some note
    pub there : slice_get sent index ≡ Some (packet.User user)
    pub is : Is note user

  finals_at : (n : ℕ) (notes : List Note) (sent : List Packet) (f : KnownFate) → In f (finals_in notes sent) → IsAt notes sent (CarriesFinal i j cs (told_now n f))
  finals_at n [] sent f inside = absurd inside
  finals_at n (note ∷ notes) [] f inside = absurd inside
  finals_at n (note ∷ notes) (x ∷ xs) f inside = at (in_either (fates_in note x) (finals_in notes xs) f inside) (finals_at n notes xs f)
    where
      one : (y : Packet) → In f (fates_in note y) → IsAt (note ∷ notes) (y ∷ xs) (CarriesFinal i j cs (told_now n f))
      one (packet.User p) g = record { index = zero; note = note; user = p; noted = refl; there = refl; is = carried n note p f g }
      one y g = absurd g

      at : In f (fates_in note x) ⊎ In f (finals_in notes xs) → (In f (finals_in notes xs) → IsAt notes xs (CarriesFinal i j cs (told_now n f))) → IsAt (note ∷ notes) (x ∷ xs) (CarriesFinal i j cs (told_now n f))
      at (inl g) rest = one x g
      at (inr g) rest = let y = rest g in record { index = suc y.index; note = y.note; user = y.user; noted = y.noted; there = y.there; is = y.is }

  pub finals_went : (n : ℕ) (notes : List Note) (sent : List Packet) (f : KnownFate) → In f (finals_in notes sent) → Went notes sent (CarriesFinal i j cs (told_now n f))
  finals_went n notes sent f inside = let y = finals_at n notes sent f inside in record {
    place = 0 + 1 + y.index;
    note = y.note;
    user = y.user;
    noted = numbered_behind [] notes y.index ∙ y.noted;
    there = numbered_behind [] sent y.index ∙ y.there;
    is = y.is;
  }

  -- and each such packet tells one
  told_at : (note : Note) (p : UserPacket) (x : Commitment) → goes_back note p ≡ true → In x cs → x.message.id ≡ p.message.correlation
      → In (record { position = x.position; fate = fate_of p.message.class }) (fates_in note (packet.User p))
  told_at note p x back there names = subst (λ b. In (record { position = x.position; fate = fate_of p.message.class }) (cond b (filter_map (fate_told p.message) cs) [])) (sym back)
      (chosen_in (fate_told p.message) cs x (record { position = x.position; fate = fate_of p.message.class }) there
      (ap (λ b. cond b (Some (record { position = x.position; fate = fate_of p.message.class })) None)
      (subst (λ id. same_id x.message.id id ≡ true) names (same_id_refl x.message.id))))

  finals_from : (notes : List Note) (sent : List Packet) (n : ℕ) (note : Note) (p : UserPacket) (x : Commitment) → slice_get notes n ≡ Some note → slice_get sent n ≡ Some (packet.User p)
      → goes_back note p ≡ true → In x cs → x.message.id ≡ p.message.correlation → In (record { position = x.position; fate = fate_of p.message.class }) (finals_in notes sent)
  finals_from [] sent n note p x e f back there names = absurd (none_some e)
  finals_from (y ∷ notes) [] n note p x e f back there names = absurd (none_some f)
  finals_from (y ∷ notes) (z ∷ sent) zero note p x e f back there names = in_append (fates_in y z) (finals_in notes sent) (record { position = x.position; fate = fate_of p.message.class })
      (subst (λ q. In (record { position = x.position; fate = fate_of p.message.class }) (fates_in y q)) (sym (some_is z (packet.User p) f))
      (told_at y p x (subst (λ m. goes_back m p ≡ true) (sym (some_is y note e)) back) there names))
  finals_from (y ∷ notes) (z ∷ sent) (suc n) note p x e f back there names = in_right (fates_in y z) (finals_in notes sent) (record { position = x.position; fate = fate_of p.message.class })
      (finals_from notes sent n note p x e f back there names)

  pub finals_there : (notes : List Note) (sent : List Packet) (k : ℕ) (note : Note) (p : UserPacket) (x : Commitment) → numbered notes k ≡ Some note → numbered sent k ≡ Some (packet.User p)
      → p.tx ≡ None → is_final_ack p.message ≡ true → note.sender ≡ j → note.receiver ≡ i → In x cs → x.message.id ≡ p.message.correlation
      → In (record { position = x.position; fate = fate_of p.message.class }) (finals_in notes sent)
  finals_there notes sent k note p x e f plain final sender receiver there names = at (k == 0) e f
    where
      back : goes_back note p ≡ true
      back = join_and (is_none p.tx && is_final_ack p.message) ((note.sender == j) && (note.receiver == i)) (join_and (is_none p.tx) (is_final_ack p.message) (ap is_none plain) final)
          (join_and (note.sender == j) (note.receiver == i) (subst (λ n. (note.sender == n) ≡ true) sender (same_number note.sender)) (subst (λ n. (note.receiver == n) ≡ true) receiver (same_number note.receiver)))

      at : (b : Bool) → cond b None (slice_get notes (k - 1)) ≡ Some note → cond b None (slice_get sent (k - 1)) ≡ Some (packet.User p)
          → In (record { position = x.position; fate = fate_of p.message.class }) (finals_in notes sent)
      at true g h = absurd (none_some g)
      at false g h = finals_from notes sent (k - 1) note p x g h back there names

  -- So they are known, where those are that lines tell.
  pub finals_known : (c : Course) (ch : Channel) (d : QueueName) (fates : List KnownFate) → TellFates c i j ch d → ((x : Commitment) → In x cs → In x (commitments (written_of i c.written)) × (x.message.destination ≡ d))
      → ((x : Decision) (fate : MessageFate) → In x (decisions_made ch (written_of j c.written)) → CameTo (lines_written (written_of j c.written)) x fate → In (record { position = x.position; fate = fate }) fates)
      → (f : KnownFate) → In f (finals_in c.network.notes c.sent) → In f fates
  finals_known c ch d fates tell of known f inside = subst (λ q. In q fates) same (known x.0 (fate_of y.user.message.class) x.1 x.3)
    where
      y : Went c.network.notes c.sent (CarriesFinal i j cs (told_now 0 f))
      y = finals_went 0 c.network.notes c.sent f inside

      x : (x : Decision) × In x (decisions_made ch (written_of j c.written)) × (x.position ≡ y.is.commitment.position) × CameTo (lines_written (written_of j c.written)) x (fate_of y.user.message.class)
      x = let g = of y.is.commitment y.is.there in
          tell y.place y.note y.user y.noted y.there y.is.plain y.is.final y.is.ends.0 y.is.ends.1 y.is.commitment g.0 g.1 y.is.names

      same : record { position = x.0.position; fate = fate_of y.user.message.class } ≡ f
      same = ap (λ p. record { position = p; fate = fate_of y.user.message.class }) (x.2 ∙ sym y.is.position) ∙ ap (λ z. record { position = f.position; fate = z }) (sym y.is.fate)

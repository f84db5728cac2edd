-- What a pump sends from the rows of a channel: a stream world goes on by sending it.
use Rattle.std.proofs.Common.{refl, ap, sym, subst, ◌∙◌, arith, inl, inr}
use Rattle.std.proofs.lemmas.Bool.Decides.{nat_tests}
use Rattle.std.specs.Prelude.{[], ◌<◌, ◌∷◌, ◌≡◌, ◌≤◌, ◌⊎◌, Bool, List, None, Option, Some, cond, false, filter, fold, nat_le, nat_lt, true, ℕ}
use Rattle.mqb_base.specs.Same.{same_name}
use Rattle.mqb_base.specs.declared.heads.TxHead.{TxHead}
use Rattle.mqb_base.specs.declared.queue_names.QueueName.{QueueName}
use Rattle.mqb_entries.specs.declared.members.Mark.{Mark}
use Rattle.mqb_exactly_once.proofs.Always.{StreamInvariant}
use Rattle.mqb_exactly_once.proofs.Befores.{before_is_greatest, same_greatest}
use Rattle.mqb_exactly_once.specs.Steps.{May, Send, happens, transfer}
use Rattle.mqb_exactly_once.specs.Truths.{IsMark}
use Rattle.mqb_exactly_once.specs.Words.{In, before, carried, is_kept, previous}
use Rattle.mqb_exactly_once.specs.World.{Channel, Commitment, StreamWorld, Transfer}
use Rattle.mqb_model.specs.Lists.{with_first_changed}
use Rattle.mqb_model.specs.records.Offered.{mark_raised, with_offered}
use Rattle.mqb_model.specs.state.Rows.{has_ordinal}
use Rattle.mqb_model.specs.state.State.{State}
use Rattle.mqb_network.specs.Courses.{Written}
use Rattle.mqb_network.specs.Laws.{lines_written}
use Rattle.mqb_orders.specs.KeptLists.{numbers}
use Rattle.mqb_orders.specs.Rows.{Row, link_before}
use Rattle.mqb_orders.specs.declared.kept.Kept.{Kept}
use Rattle.mqb_packet.specs.declared.packet.Packet.{Packet}
use Rattle.mqb_packet.specs.declared.packet.Packet.TheVariants as packet
use Rattle.mqb_packet.specs.declared.packet.UserPacket.{UserPacket}
use Rattle.mqb_history.specs.Committed.{commitments}
use Rattle.mqb_history.proofs.Committing.{OrdinalsRise, all_in, is_first_changed}
use Rattle.mqb_history.proofs.Due.{AreDue}
use Rattle.mqb_history.proofs.Lists.{none_some, some_is, true_not_false}
use Rattle.mqb_history.proofs.Marked.{fold_from, fold_member}
use Rattle.mqb_history.proofs.Marking.{Raise, raise_then}
use Rattle.mqb_history.proofs.Names.{same_name_is, same_name_refl}
use Rattle.mqb_history.proofs.Outside.{filtered_in}
use Rattle.mqb_history.proofs.Pledging.{kept_in_row, rise_first, row_kept}
use Rattle.mqb_history.proofs.Previous.{linked}
use Rattle.mqb_history.proofs.Departing.{user_is}
use Rattle.mqb_history.proofs.Reaching.{Reached, kept_invariant, more}
use Rattle.mqb_history.proofs.Replacing.{Replaced, has_row_of, none_replaced, ordinal_replaced}
use Rattle.mqb_history.proofs.Sourcing.{IsRowShown, IsSourced}

-- The number that stands before a kept one.

pub in_kept : (ks : List Kept) (n : ℕ) → In n (numbers ks) → (k : Kept) × In k ks × (k.number ≡ n)
in_kept [] n i = absurd i
in_kept (k ∷ ks) n (inl e) = (k, inl refl, e)
in_kept (k ∷ ks) n (inr i) = let g = in_kept ks n i in (g.0, inr g.1, g.2)

passes : (n : ℕ) (xs : List ℕ) (x : ℕ) → In x (filter (λ y. nat_lt y n) xs) → x < n
passes n [] x i = absurd i
passes n (y ∷ ys) x i = at (nat_lt y n) refl i (passes n ys x)
  where
    less : nat_lt y n ≡ true → y < n
    less e = grind (arith, nat_tests)

    at : (b : Bool) → nat_lt y n ≡ b → In x (cond b (y ∷ filter (λ z. nat_lt z n) ys) (filter (λ z. nat_lt z n) ys)) → (In x (filter (λ z. nat_lt z n) ys) → x < n) → x < n
    at true e (inl f) rest = subst (λ z. z < n) f (less e)
    at true e (inr j) rest = rest j
    at false e j rest = rest j

module _ (d : QueueName) (peer : ℕ) (c : Channel) (v : StreamWorld) (s : State) (ws : List Written) (due : AreDue s ws) (h : IsSourced d peer c v s.outs (commitments ws) (lines_written ws)) where
  abbrev w : StreamWorld
  w = h.world

  abbrev i : StreamInvariant w
  i = kept_invariant c w h.reached

  module _ (r : Row) (k : Kept) (there : In r s.outs) (leads : r.destination ≡ d) (inside : In k r.kept) (unacknowledged : r.acked < k.number) where
    abbrev link : ℕ
    link = link_before r.acked r.kept k.number

    shown : IsRowShown w r
    shown = h.rows.rows r there leads

    member : (link ≡ 0) ⊎ ((link < k.number) × (is_kept w.committed w.expired (record { sequence = r.sequence; number = link }) ≡ true))
    member = at (fold_member r.acked (filter (λ y. nat_lt y k.number) (numbers r.kept)))
      where
        acked : IsMark w r.sequence (w.acknowledged r.sequence) → link ≡ r.acked
            → (link ≡ 0) ⊎ ((link < k.number) × (is_kept w.committed w.expired (record { sequence = r.sequence; number = link }) ≡ true))
        acked (inl e) f = inl (f ∙ sym shown.acked ∙ e)
        acked (inr e) f = inr (omega (arith, f, unacknowledged), subst (λ n. is_kept w.committed w.expired (record { sequence = r.sequence; number = n }) ≡ true) (shown.acked ∙ sym f) e)

        at : (link ≡ r.acked) ⊎ In link (filter (λ y. nat_lt y k.number) (numbers r.kept))
            → (link ≡ 0) ⊎ ((link < k.number) × (is_kept w.committed w.expired (record { sequence = r.sequence; number = link }) ≡ true))
        at (inl e) = acked (i.marks r.sequence).acknowledged e
        at (inr j) = let g = in_kept r.kept link (filtered_in (λ y. nat_lt y k.number) (numbers r.kept) link j) in
            inr (passes k.number (numbers r.kept) link j, subst (λ n. is_kept w.committed w.expired (record { sequence = r.sequence; number = n }) ≡ true) g.2 (row_kept w r g.0 shown g.1))

    greatest : (n : ℕ) → n < k.number → is_kept w.committed w.expired (record { sequence = r.sequence; number = n }) ≡ true → n ≤ link
    greatest n less is_kept_now = at (nat_le n r.acked) refl
      where
        floor : r.acked ≤ link
        floor = fold_from r.acked (filter (λ y. nat_lt y k.number) (numbers r.kept))

        under : nat_le n r.acked ≡ true → n ≤ r.acked
        under e = grind (arith, nat_tests)

        above : nat_le n r.acked ≡ false → r.acked < n
        above e = grind (arith, nat_tests)

        at : (b : Bool) → nat_le n r.acked ≡ b → n ≤ link
        at true e = let le = under e in omega (arith, le, floor)
        at false e = let g = kept_in_row d peer c v s ws due h r (record { sequence = r.sequence; number = n }) there leads refl is_kept_now (above e) in
            let same = g.2 in let le = linked r.acked k.number r.kept g.0 g.1 (omega (arith, less, same)) in omega (arith, le, same)

    pub link_is_previous : previous w r.sequence k.number ≡ link
    link_is_previous = same_greatest w.committed w.expired r.sequence k.number (previous w r.sequence k.number) link
        (before_is_greatest w.committed w.expired r.sequence k.number) (record { member = member; greatest = greatest })

-- Marks.

-- a row with marks raised
pub record IsRaisedRow (a b : Row) : Type 0 where
  pub sequence : b.sequence ≡ a.sequence
  pub destination : b.destination ≡ a.destination
  pub acked : b.acked ≡ a.acked
  pub kept : b.kept ≡ a.kept
  pub offered : a.offered ≤ b.offered

pub raised_row : (s : State) (marks : List Mark) → OrdinalsRise s.outs → Raise s.outs marks → (a : Row) → In a s.outs → (b : Row) × In b (fold mark_raised s marks).outs × IsRaisedRow a b
raised_row s [] rise raise a inside = (a, inside, record { sequence = refl; destination = refl; acked = refl; kept = refl; offered = omega arith })
raised_row s (mark ∷ marks) rise raise a inside = at (raised_row next marks rise_next raise_next) (has_row_of mark.ordinal s.outs)
  where
    next : State
    next = mark_raised s mark

    rise_next : OrdinalsRise next.outs
    rise_next = subst OrdinalsRise (sym (is_first_changed (with_offered mark.number) (has_ordinal mark.ordinal) s.outs)) (rise_first (with_offered mark.number) (λ r. refl) (has_ordinal mark.ordinal) s.outs rise)

    raise_next : Raise next.outs marks
    raise_next = subst (λ rows. Raise rows marks) (sym (is_first_changed (with_offered mark.number) (has_ordinal mark.ordinal) s.outs))
        (raise_then mark marks s.outs raise.1.0 (raise.0.1, raise.1.1))

    Goal : Row → Type 0
    Goal x = (b : Row) × In b (fold mark_raised next marks).outs × IsRaisedRow x b

    from : (x : Row) → IsRaisedRow a x → Goal x → Goal a
    from x f g = (
      g.0,
      g.1,
      record {
        sequence = g.2.sequence ∙ f.sequence;
        destination = g.2.destination ∙ f.destination;
        acked = g.2.acked ∙ f.acked;
        kept = g.2.kept ∙ f.kept;
        offered = let low = f.offered in let high = g.2.offered in omega (arith, low, high);
      },
    )

    here : ((x : Row) → In x next.outs → Goal x) → a.offered ≤ mark.number → In (with_offered mark.number a) next.outs → Goal a
    here rest le i = from (with_offered mark.number a) (record { sequence = refl; destination = refl; acked = refl; kept = refl; offered = le }) (rest (with_offered mark.number a) i)

    found : ((x : Row) → In x next.outs → Goal x) → (x : Row) → In x s.outs → x.sequence.ordinal ≡ mark.ordinal → Replaced s.outs next.outs x (with_offered mark.number x) → (x ≡ a) ⊎ In a next.outs → Goal a
    found rest x there same r (inl e) = here rest (all_in (λ (y : Row). y.sequence.ordinal ≡ mark.ordinal → y.offered ≤ mark.number) s.outs a raise.0.0 inside
        (ap (λ (y : Row). y.sequence.ordinal) (sym e) ∙ same)) (subst (λ y. In (with_offered mark.number y) next.outs) e r.there)
    found rest x there same r (inr i) = rest a i

    at : ((x : Row) → In x next.outs → Goal x) → ((x : Row) × In x s.outs × (x.sequence.ordinal ≡ mark.ordinal)) ⊎ ((r : Row) → In r s.outs → r.sequence.ordinal ≡ mark.ordinal → ⊥) → Goal a
    at rest (inl g) = let r = subst (λ n. Replaced s.outs (with_first_changed (with_offered mark.number) (has_ordinal n) s.outs) g.0 (with_offered mark.number g.0)) g.2
        (ordinal_replaced (with_offered mark.number) s.outs g.0 rise g.1) in found rest g.0 g.1 g.2 r (r.back a inside)
    at rest (inr none) = rest a (subst (In a) (sym (none_replaced (with_offered mark.number) mark.ordinal s.outs none)) inside)

-- one that has a mark stands there or above
pub marked_row : (s : State) (marks : List Mark) → OrdinalsRise s.outs → Raise s.outs marks → (a : Row) → In a s.outs → (mark : Mark) → In mark marks → mark.ordinal ≡ a.sequence.ordinal
    → (b : Row) × In b (fold mark_raised s marks).outs × IsRaisedRow a b × (mark.number ≤ b.offered)
marked_row s [] rise raise a inside mark i same = absurd i
marked_row s (m ∷ marks) rise raise a inside mark i same = at (λ k j. marked_row next marks rise_next raise_next a k mark j same) i
  where
    next : State
    next = mark_raised s m

    rise_next : OrdinalsRise next.outs
    rise_next = subst OrdinalsRise (sym (is_first_changed (with_offered m.number) (has_ordinal m.ordinal) s.outs)) (rise_first (with_offered m.number) (λ r. refl) (has_ordinal m.ordinal) s.outs rise)

    raise_next : Raise next.outs marks
    raise_next = subst (λ rows. Raise rows marks) (sym (is_first_changed (with_offered m.number) (has_ordinal m.ordinal) s.outs))
        (raise_then m marks s.outs raise.1.0 (raise.0.1, raise.1.1))

    Goal : Type 0
    Goal = (b : Row) × In b (fold mark_raised next marks).outs × IsRaisedRow a b × (mark.number ≤ b.offered)

    own : m ≡ mark → Goal
    own e = let r = subst (λ n. Replaced s.outs (with_first_changed (with_offered m.number) (has_ordinal n) s.outs) a (with_offered m.number a)) (sym same ∙ ap (λ (x : Mark). x.ordinal) (sym e))
        (ordinal_replaced (with_offered m.number) s.outs a rise inside) in
        let g = raised_row next marks rise_next raise_next (with_offered m.number a) r.there in
        let le = all_in (λ (y : Row). y.sequence.ordinal ≡ m.ordinal → y.offered ≤ m.number) s.outs a raise.0.0 inside (sym same ∙ ap (λ (x : Mark). x.ordinal) (sym e)) in (
          g.0,
          g.1,
          record {
            sequence = g.2.sequence;
            destination = g.2.destination;
            acked = g.2.acked;
            kept = g.2.kept;
            offered = let high = g.2.offered in omega (arith, le, high);
          },
          let high = g.2.offered in let n = ap (λ (x : Mark). x.number) e in omega (arith, high, n),
        )

    behind : (In a next.outs → In mark marks → Goal) → In mark marks → Goal
    behind rest j = by (has_row_of m.ordinal s.outs)
      where
        less : m.ordinal < mark.ordinal
        less = all_in (λ (b : Mark). m.ordinal < b.ordinal) marks mark raise.1.0 j

        still : (x : Row) → x.sequence.ordinal ≡ m.ordinal → (x ≡ a) ⊎ In a next.outs → In a next.outs
        still x f (inl e) = let own = ap (λ (y : Row). y.sequence.ordinal) e in absurd (omega (arith, less, own, f, same))
        still x f (inr k) = k

        by : ((x : Row) × In x s.outs × (x.sequence.ordinal ≡ m.ordinal)) ⊎ ((r : Row) → In r s.outs → r.sequence.ordinal ≡ m.ordinal → ⊥) → Goal
        by (inl g) = let r = subst (λ n. Replaced s.outs (with_first_changed (with_offered m.number) (has_ordinal n) s.outs) g.0 (with_offered m.number g.0)) g.2
            (ordinal_replaced (with_offered m.number) s.outs g.0 rise g.1) in rest (still g.0 g.2 (r.back a inside)) j
        by (inr none) = rest (subst (In a) (sym (none_replaced (with_offered m.number) m.ordinal s.outs none)) inside) j

    at : (In a next.outs → In mark marks → Goal) → (m ≡ mark) ⊎ In mark marks → Goal
    at rest (inl e) = own e
    at rest (inr j) = behind rest j

-- Packets are sent.

-- a packet can be sent at a moment
pub record CanSend (w : StreamWorld) (now : ℕ) (p : UserPacket) (tx : TxHead) : Type 0 where
  pub commitment : Commitment
  pub may : May w (Send commitment now)
  pub head : (transfer w commitment now).head ≡ tx
  pub message : carried commitment.message now ≡ p.message

-- it is a transfer
pub record IsSentAs (transfers : List Transfer) (now number : ℕ) (p : UserPacket) (tx : TxHead) : Type 0 where
  pub transfer : Transfer
  pub there : In transfer transfers
  pub head : transfer.head ≡ tx
  pub message : transfer.message ≡ p.message
  pub sent_at : transfer.sent_at ≡ now
  pub connection : transfer.connection ≡ number

-- sends change nothing but what was sent
pub record IsSameButSent (v w : StreamWorld) : Type 0 where
  pub channel : w.channel ≡ v.channel
  pub committed : w.committed ≡ v.committed
  pub expired : w.expired ≡ v.expired
  pub offered : w.offered ≡ v.offered
  pub acknowledged : w.acknowledged ≡ v.acknowledged
  pub decided : w.decided ≡ v.decided
  pub fates : w.fates ≡ v.fates
  pub order_acks : w.order_acks ≡ v.order_acks
  pub final_acks : w.final_acks ≡ v.final_acks
  pub connection : w.connection ≡ v.connection
  pub connected : w.connected ≡ v.connected
  pub more : (t : Transfer) → In t v.transfers → In t w.transfers

-- the packets of a channel
abbrev pub IsOfChannel : QueueName → List Packet → UserPacket → TxHead → Type 0
IsOfChannel d zs p tx = In (packet.User p) zs × (p.tx ≡ Some tx) × (p.message.destination ≡ d)

-- a transfer is of a packet of a channel
pub record IsFromPacket (d : QueueName) (zs : List Packet) (now : ℕ) (t : Transfer) : Type 0 where
  pub user : UserPacket
  pub head : TxHead
  pub of : IsOfChannel d zs user head
  pub is_head : t.head ≡ head
  pub message : t.message ≡ user.message
  pub sent_at : t.sent_at ≡ now

pub record AreSentOn (d : QueueName) (c : Channel) (v : StreamWorld) (now : ℕ) (zs : List Packet) : Type 0 where
  pub world : StreamWorld
  pub reached : Reached c world
  pub same : IsSameButSent v world
  pub sent : (p : UserPacket) (tx : TxHead) → IsOfChannel d zs p tx → IsSentAs world.transfers now v.connection p tx
  -- and nothing else is
  pub only : (t : Transfer) → In t world.transfers → In t v.transfers ⊎ IsFromPacket d zs now t

-- of one packet of more
from_more : (d : QueueName) (x : Packet) (zs : List Packet) (now : ℕ) (ts : List Transfer) (t : Transfer) → In t ts ⊎ IsFromPacket d zs now t → In t ts ⊎ IsFromPacket d (x ∷ zs) now t
from_more d x zs now ts t (inl i) = inl i
from_more d x zs now ts t (inr g) = inr (record { user = g.user; head = g.head; of = (inr g.of.0, g.of.1, g.of.2); is_head = g.is_head; message = g.message; sent_at = g.sent_at })

sent_more : (olds news : List Transfer) (now connection : ℕ) (p : UserPacket) (tx : TxHead) → ((t : Transfer) → In t olds → In t news) → IsSentAs olds now connection p tx → IsSentAs news now connection p tx
sent_more olds news now connection p tx more h = record { transfer = h.transfer; there = more h.transfer h.there; head = h.head; message = h.message; sent_at = h.sent_at; connection = h.connection }

module _ (d : QueueName) (c : Channel) (now : ℕ) where
  send_more : (v : StreamWorld) (x : Packet) (zs : List Packet) → ((p : UserPacket) (tx : TxHead) → IsOfChannel d (x ∷ zs) p tx → CanSend v now p tx) → AreSentOn d c v now zs → AreSentOn d c v now (x ∷ zs)
  send_more v x zs can rest = at x refl
    where
      -- nothing of the channel
      none : ((p : UserPacket) (tx : TxHead) → x ≡ packet.User p → p.tx ≡ Some tx → p.message.destination ≡ d → ⊥) → AreSentOn d c v now (x ∷ zs)
      none apart = record { world = rest.world; reached = rest.reached; same = rest.same; sent = λ p tx h. by p tx h.0 h.1 h.2; only = λ t i. from_more d x zs now v.transfers t (rest.only t i) }
        where
          by : (p : UserPacket) (tx : TxHead) → (x ≡ packet.User p) ⊎ In (packet.User p) zs → p.tx ≡ Some tx → p.message.destination ≡ d → IsSentAs rest.world.transfers now v.connection p tx
          by p tx (inl e) f g = absurd (apart p tx e f g)
          by p tx (inr i) f g = rest.sent p tx (i, f, g)

      -- one more of the channel
      one : (p : UserPacket) (tx : TxHead) → x ≡ packet.User p → p.tx ≡ Some tx → p.message.destination ≡ d → AreSentOn d c v now (x ∷ zs)
      one p tx e t to = record {
        world = z;
        reached = more c rest.world (Send g.commitment now) rest.reached may;
        same = record {
          channel = rest.same.channel;
          committed = rest.same.committed;
          expired = rest.same.expired;
          offered = rest.same.offered;
          acknowledged = rest.same.acknowledged;
          decided = rest.same.decided;
          fates = rest.same.fates;
          order_acks = rest.same.order_acks;
          final_acks = rest.same.final_acks;
          connection = rest.same.connection;
          connected = rest.same.connected;
          more = λ y i. inr (rest.same.more y i);
        };
        sent = λ q h k. by q h k.0 k.1 k.2;
        only = λ y i. first y i;
      }
        where
          g : CanSend v now p tx
          g = can p tx (inl e, t, to)

          z : StreamWorld
          z = happens rest.world (Send g.commitment now)

          may : May rest.world (Send g.commitment now)
          may = (
            rest.same.connected ∙ g.may.0,
            subst (In g.commitment) (sym rest.same.committed) g.may.1,
            ap (λ cs. is_kept cs rest.world.expired g.commitment.position) rest.same.committed ∙ ap (λ es. is_kept v.committed es g.commitment.position) rest.same.expired ∙ g.may.2,
            subst (λ marks. marks g.commitment.position.sequence < g.commitment.position.number) (sym rest.same.acknowledged) g.may.3,
            subst (λ marks. g.commitment.position.number ≤ marks g.commitment.position.sequence) (sym rest.same.offered) g.may.4,
          )

          head : (transfer rest.world g.commitment now).head ≡ tx
          head = ap (λ n. record { sequence = g.commitment.position.sequence; number = g.commitment.position.number; previous = n })
              (ap (λ cs. before cs rest.world.expired g.commitment.position.sequence g.commitment.position.number) rest.same.committed
              ∙ ap (λ es. before v.committed es g.commitment.position.sequence g.commitment.position.number) rest.same.expired) ∙ g.head

          own : IsSentAs z.transfers now v.connection p tx
          own = record { transfer = transfer rest.world g.commitment now; there = inl refl; head = head; message = g.message; sent_at = refl; connection = rest.same.connection }

          first : (y : Transfer) → In y z.transfers → In y v.transfers ⊎ IsFromPacket d (x ∷ zs) now y
          first y (inl same) = inr (record {
            user = p;
            head = tx;
            of = (inl e, t, to);
            is_head = ap (λ (u : Transfer). u.head) (sym same) ∙ head;
            message = ap (λ (u : Transfer). u.message) (sym same) ∙ g.message;
            sent_at = ap (λ (u : Transfer). u.sent_at) (sym same);
          })
          first y (inr i) = from_more d x zs now v.transfers y (rest.only y i)

          by : (q : UserPacket) (h : TxHead) → (x ≡ packet.User q) ⊎ In (packet.User q) zs → q.tx ≡ Some h → q.message.destination ≡ d → IsSentAs z.transfers now v.connection q h
          by q h (inl f) k l = let same = user_is p q (sym e ∙ f) in subst (λ y. IsSentAs z.transfers now v.connection y h) same
              (subst (IsSentAs z.transfers now v.connection p) (some_is tx h (sym t ∙ ap (λ (y : UserPacket). y.tx) same ∙ k)) own)
          by q h (inr i) k l = sent_more rest.world.transfers z.transfers now v.connection q h (λ y j. inr j) (rest.sent q h (i, k, l))

      no_user : ((p : UserPacket) → x ≡ packet.User p → ⊥) → AreSentOn d c v now (x ∷ zs)
      no_user apart = none (λ p tx e f g. apart p e)

      of_user : (p : UserPacket) → x ≡ packet.User p → (o : Option TxHead) → p.tx ≡ o → (b : Bool) → same_name p.message.destination d ≡ b → AreSentOn d c v now (x ∷ zs)
      of_user p e None t b f = none (λ q h g k l. none_some (sym t ∙ ap (λ (y : UserPacket). y.tx) (user_is p q (sym e ∙ g)) ∙ k))
      of_user p e (Some tx) t true f = one p tx e t (same_name_is p.message.destination d f)
      of_user p e (Some tx) t false f = none (λ q h g k l. true_not_false (same_name p.message.destination d)
          (subst (λ n. same_name n d ≡ true) (sym (ap (λ (y : UserPacket). y.message.destination) (user_is p q (sym e ∙ g)) ∙ l)) (same_name_refl d)) f)

      at : (y : Packet) → x ≡ y → AreSentOn d c v now (x ∷ zs)
      at (packet.User p) e = of_user p e p.tx refl (same_name p.message.destination d) refl
      at y e = no_user (λ p f. let g = sym e ∙ f in let none : ⊥ = cc in none)

  pub send_on : (v : StreamWorld) (zs : List Packet) → Reached c v → ((p : UserPacket) (tx : TxHead) → IsOfChannel d zs p tx → CanSend v now p tx) → AreSentOn d c v now zs
  send_on v [] r can = record {
    world = v;
    reached = r;
    same = record { channel = refl; committed = refl; expired = refl; offered = refl; acknowledged = refl; decided = refl; fates = refl; order_acks = refl; final_acks = refl; connection = refl; connected = refl; more = λ t i. i };
    sent = λ p tx h. absurd h.0;
    only = λ t i. inl i;
  }
  send_on v (x ∷ zs) r can = send_more v x zs can (send_on v zs r (λ p tx h. can p tx (inr h.0, h.1, h.2)))

-- Plain lists are filled one after the other, with messages that were not sent.
use Rattle.std.proofs.Common.{◌≡◌, ◌<◌, ◌+◌, ◌^◌, ℕ, suc, false, List, [], ◌∷◌, ◌++◌, length, refl, sym, ap, subst, ◌∙◌, arith}
use Rattle.std.proofs.lemmas.List.{length_push, map-append}
use Rattle.std.specs.List.{AllByRecursion}
use Rattle.std.specs.Prelude.{not}
use Rattle.mqb_base.specs.declared.message.Lane.TheVariants.{Durable}
use Rattle.mqb_base.specs.declared.message.Message.{Message}
use Rattle.mqb_model.specs.state.Places.{with_plain}
use Rattle.mqb_orders.specs.Rows.{Row}
use Rattle.mqb_orders.specs.declared.rows.InRow.{InRow}
use Rattle.mqb_packet.specs.declared.packet.Headers.TheVariants.{Session}
use Rattle.mqb_plain.specs.Lists.{unmarked, unsent}
use Rattle.mqb_plain.specs.Plain.{PlainLists, no_plain, pushed}
use Rattle.mqb_plain.specs.declared.outgoing.Outgoing.{Outgoing}
use Rattle.mqb_snapshot.specs.Parts.{Parts, each_joined}
use Rattle.mqb_snapshot.specs.Reading.{plain_joined, waiting_joined}
use Rattle.mqb_snapshot.specs.Values.{IsCounted}
use Rattle.mqb_snapshot.proofs.FieldsRead.{flag_reads}
use Rattle.mqb_snapshot.proofs.Filled.{UpTo, all_full, filled_more, next_one, none_full, opened}
use Rattle.mqb_snapshot.proofs.MessagesRead.{own_reads}
use Rattle.mqb_snapshot.proofs.PlacesFilled.{HasFew, IsFilled, IsFullQueue}
use Rattle.mqb_snapshot.proofs.Readers.{Reads, behind, each_reads, finished, list_reads, tested_reads, weaker}

-- recoverable messages alone, of which none was sent
abbrev IsUnsent : PlainLists → Type 0
IsUnsent l = (unmarked l.recoverable ≡ l.recoverable) × (l.express ≡ [])

abbrev HasPlainRoom : ℕ → PlainLists → Type 0
HasPlainRoom n l = (length l.recoverable + n < 2 ^ 32) × IsUnsent l

abbrev pub IsFullPlain : PlainLists → Type 0
IsFullPlain l = IsCounted l.recoverable × IsUnsent l

abbrev pub IsEmptyPlain : PlainLists → Type 0
IsEmptyPlain l = l ≡ no_plain

room_pushed : (n : ℕ) (m : Message) (l : PlainLists) → HasPlainRoom (suc n) l → HasPlainRoom n (pushed Durable m l)
room_pushed n m l h = let room : length l.recoverable + suc n < 2 ^ 32 = h.0 in (
  omega (arith, room, length_push l.recoverable (unsent m)),
  (map-append (λ o. unsent o.message) l.recoverable (unsent m ∷ []) ∙ ap (λ (os : List Outgoing). os ++ unsent m ∷ []) h.1.0, h.1.1),
)

plain_room : (n : ℕ) (l : PlainLists) → n < 2 ^ 32 → IsEmptyPlain l → HasPlainRoom n l
plain_room n l few none = subst (HasPlainRoom n) (sym none) (omega (arith, few), (refl, refl))

plain_full : (l : PlainLists) → HasPlainRoom 0 l → IsFullPlain l
plain_full l h = let room : length l.recoverable + 0 < 2 ^ 32 = h.0 in (omega (arith, room), h.1)

-- Where these are the rows.
module _ (O : List Row → Type 0) (I : List InRow → Type 0) where
  -- parts of which all places are filled, and the plain lists so
  abbrev pub PlainFilled : (List PlainLists → Type 0) → Parts → Type 0
  PlainFilled P p = IsFilled (AllByRecursion IsFullQueue) HasFew HasFew HasFew P O I p

  with_plain_filled : (P R : List PlainLists → Type 0) (p : Parts) (numbers : List ℕ) (lists : List PlainLists) → PlainFilled P p → R lists
      → PlainFilled R (record { state = record p.state { plain = lists }; numbers = numbers })
  with_plain_filled P R p numbers lists is filled = record {
    queues = is.queues;
    dead = is.dead;
    dead_xact = is.dead_xact;
    journal = is.journal;
    plain = filled;
    outs = is.outs;
    ins = is.ins;
    express = is.express;
  }

  -- parts whose plain lists up to an index are full
  abbrev WaitingTo : ℕ → (PlainLists → Type 0) → ℕ → Parts → Type 0
  WaitingTo long Open k p = PlainFilled (UpTo long IsFullPlain Open IsEmptyPlain k) p

  plain_fills : (long k n : ℕ) (p : Parts) → WaitingTo long (HasPlainRoom (suc n)) k p → Reads (plain_joined k p) (WaitingTo long (HasPlainRoom n) k)
  unfolding plain_joined
  plain_fills long k n p is = record {
    gives = λ r x all e.
        behind (WaitingTo long (HasPlainRoom n) k) (tested_reads not flag_reads) r _ x all e (λ transactional transactional_end is_flag transactional_left transactional_rest.
        behind (WaitingTo long (HasPlainRoom n) k) (own_reads p Session false) transactional_end _ x transactional_left transactional_rest (λ m m_end is_own m_left m_rest.
        finished (WaitingTo long (HasPlainRoom n) k) (record p { state = with_plain (pushed Durable m) p.state k; numbers = p.numbers ++ m.id.number ∷ [] }) m_end x
        (with_plain_filled _ (UpTo long IsFullPlain (HasPlainRoom n) IsEmptyPlain k) p _ _ is (filled_more (HasPlainRoom n) (pushed Durable m) (room_pushed n m) k p.state.plain is.plain))
        m_left m_rest));
  }

  waiting_fills : (long k : ℕ) (p : Parts) → WaitingTo long IsEmptyPlain k p → Reads (waiting_joined k p) (WaitingTo long IsEmptyPlain (suc k))
  unfolding waiting_joined
  waiting_fills long k p is = weaker (WaitingTo long IsEmptyPlain (suc k))
      (λ q h. with_plain_filled _ (UpTo long IsFullPlain IsEmptyPlain IsEmptyPlain (suc k)) q q.numbers q.state.plain h (next_one plain_full k q.state.plain h.plain))
      (list_reads (λ n. WaitingTo long (HasPlainRoom n) k) (plain_fills long k) p
      (λ n few. with_plain_filled _ (UpTo long IsFullPlain (HasPlainRoom n) IsEmptyPlain k) p p.numbers p.state.plain is
      (opened (HasPlainRoom n) (λ l none. plain_room n l few none) k p.state.plain is.plain)))

  pub all_waiting_fill : (p : Parts) → PlainFilled (AllByRecursion IsEmptyPlain) p
      → Reads (each_joined (length p.state.plain) 0 waiting_joined p) (PlainFilled (AllByRecursion IsFullPlain))
  all_waiting_fill p is = let long = length p.state.plain in
      weaker (PlainFilled (AllByRecursion IsFullPlain))
      (λ q h. let end : 0 + long ≡ long = omega arith in with_plain_filled _ (AllByRecursion IsFullPlain) q q.numbers q.state.plain h (all_full (0 + long) q.state.plain end h.plain))
      (each_reads (WaitingTo long IsEmptyPlain) (waiting_fills long) long 0 p
      (with_plain_filled _ (UpTo long IsFullPlain IsEmptyPlain IsEmptyPlain 0) p p.numbers p.state.plain is (none_full IsFullPlain IsEmptyPlain p.state.plain is.plain)))

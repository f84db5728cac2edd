-- Members of lists are read as they are spelled.
use Rattle.std.proofs.Common.{◌≡◌, ℕ, cond, eqb, List, [], ◌∷◌, ◌++◌, length, take, Result, Ok}
use Rattle.std.proofs.Common.{refl, sym, subst, ◌∙◌, inl, inr, arith}
use Rattle.mqb_base.specs.declared.ids.MessageId.{MessageId}
use Rattle.mqb_fields.specs.Reading.{◌>>=◌, Reading, rest_of, moved}
use Rattle.mqb_fields.specs.Writing.{bytes_of}
use Rattle.mqb_entries.specs.declared.faults.EntryFault.{EntryFault}
use Rattle.mqb_entries.specs.declared.members.Mark.{Mark}
use Rattle.mqb_entries.specs.declared.members.OpView.{OpView}
use Rattle.mqb_entries.specs.declared.members.OpView.TheVariants.{Send, Take}
use Rattle.mqb_entries.specs.Fields.{outside, u8_at, u32_at, id_at, packet_at}
use Rattle.mqb_entries.specs.Members.{send_at, take_at as taking_at, op_at, mark_at}
use Rattle.mqb_entries.specs.Spelled.{spelled_id, spelled_packet, spelled_op, spelled_mark}
use Rattle.mqb_entries.specs.Spelled.{IsOp, IsMark}
use Rattle.mqb_entries.specs.Formats.{IsBytes, Took, IsFormat, seen, behind}
use Rattle.mqb_entries.specs.lemmas.Formats.{bind_gives, bind_assoc, bind_same, ok_same, rest_again}
use Rattle.mqb_entries.specs.lemmas.Formats.{both_moved, map_format, pair_format, read_same}
use Rattle.mqb_entries.specs.lemmas.FieldFormats.{u8_format, u32_format, id_format, packet_format}
use Rattle.mqb_entries.specs.lemmas.FieldFormats.{chosen, spans, spans_both, took_of}
use Rattle.mqb_entries.specs.lemmas.FieldFormats.{byte_is, outside_apart}

-- marks
abbrev made_mark : ℕ × ℕ → Mark
made_mark p = record { ordinal = p.0; number = p.1 }

abbrev mark_parts : Mark → ℕ × ℕ
mark_parts m = (m.ordinal, m.number)

mark_same : (r : Reading)
    → ((u32_at r >>= λ x. u32_at x.1 >>= behind EntryFault x.0) >>= seen EntryFault made_mark)
    ≡ mark_at r
unfolding mark_at
mark_same r =
    bind_assoc (u32_at r) (λ x. u32_at x.1 >>= behind EntryFault x.0) (seen EntryFault made_mark)
    ∙ bind_same (u32_at r) _ _
    (λ x. bind_assoc (u32_at x.1) (behind EntryFault x.0) (seen EntryFault made_mark))

pub mark_format : IsFormat mark_at spelled_mark IsMark
mark_format = read_same
    (map_format (pair_format u32_format u32_format) made_mark mark_parts IsMark (λ m is. (is, refl))
    (λ p all is. (is, refl)))
    mark_same

-- ops
abbrev made_take : ℕ × MessageId → OpView
made_take p = Take p.0 p.1

abbrev op_in : Reading → ℕ × Reading → Result (OpView × Reading) EntryFault
op_in r byte =
    cond (eqb byte.0 1) (send_at byte.1) (cond (eqb byte.0 2) (taking_at byte.1) (outside r))

op_again : (r : Reading) (op : OpView) (rest : List ℕ) → IsOp op → rest_of r ≡ spelled_op op ++ rest
    → op_at r ≡ Ok (op, moved (length (spelled_op op)) r)
unfolding op_at
op_again r (Send packet) rest fits e =
    let one = u8_format.again r 1 (spelled_packet packet ++ rest) (omega arith) e in
    let two = packet_format.again (moved 1 r) packet rest fits
    (rest_again r (1 ∷ []) (spelled_packet packet ++ rest) e) in
    rw (one, two, both_moved (1 ∷ []) (spelled_packet packet) r) refl
op_again r (Take queue id) rest fits e =
    let both = pair_format u32_format id_format in
    let text = bytes_of 4 queue ++ spelled_id id in
    let one = u8_format.again r 2 (text ++ rest) (omega arith) e in
    let two =
    both.again (moved 1 r) (queue, id) rest fits (rest_again r (2 ∷ []) (text ++ rest) e) in
    rw one (sym (take_same (moved 1 r)) ∙ rw (two, both_moved (2 ∷ []) text r) refl)
  where
    take_same : (r : Reading)
        → ((u32_at r >>= λ x. id_at x.1 >>= behind EntryFault x.0) >>= seen EntryFault made_take)
        ≡ taking_at r
    take_same r =
        bind_assoc (u32_at r) (λ x. id_at x.1 >>= behind EntryFault x.0) (seen EntryFault made_take)
        ∙ bind_same (u32_at r) _ _
        (λ x. bind_assoc (id_at x.1) (behind EntryFault x.0) (seen EntryFault made_take))

op_took : (r : Reading) (x : OpView × Reading) → IsBytes (rest_of r) → op_at r ≡ Ok x
    → Took spelled_op IsOp r x
unfolding op_at
op_took r x all e =
    let step = bind_gives (u8_at r) (op_in r) x e in
    let byte = step.0 in
    let Goal : OpView × Reading → Type 0 = λ y. Took spelled_op IsOp r y in
    elim (chosen (eqb byte.0 1) (send_at byte.1)
    (cond (eqb byte.0 2) (taking_at byte.1) (outside r)) (Ok x) step.2) [
      | inl send ↦
          let front = byte_is 1 r byte all step.1 send.0 in
          let second = bind_gives (packet_at byte.1) (seen EntryFault Send) x send.1 in
          let packet = second.0 in
          let t = packet_format.took byte.1 packet front.bytes second.1 in
          let op : OpView × Reading = (Send packet.0, packet.1) in
          subst Goal (ok_same EntryFault op x second.2) (took_of r op (spans_both r byte.1 packet.1
          (1 ∷ []) (spelled_packet packet.0) front (spans byte.1 packet front.bytes t)) t.fits)
      | inr other ↦ elim (chosen (eqb byte.0 2) (taking_at byte.1) (outside r) (Ok x) other.1) [
        | inl take ↦
            let front = byte_is 2 r byte all step.1 take.0 in
            let second = bind_gives (u32_at byte.1)
            (λ queue. id_at queue.1 >>= λ id. done (Take queue.0 id.0) id.1) x take.1 in
            let queue = second.0 in
            let third =
            bind_gives (id_at queue.1) (λ id. done (Take queue.0 id.0) id.1) x second.2 in
            let id = third.0 in
            let t = u32_format.took byte.1 queue front.bytes second.1 in
            let middle = spans byte.1 queue front.bytes t in
            let u = id_format.took queue.1 id middle.bytes third.1 in
            let last = spans_both byte.1 queue.1 id.1 (bytes_of 4 queue.0) (spelled_id id.0) middle
            (spans queue.1 id middle.bytes u) in
            let op : OpView × Reading = (Take queue.0 id.0, id.1) in
            subst Goal (ok_same EntryFault op x third.2) (took_of r op (spans_both r byte.1 id.1
            (2 ∷ []) (bytes_of 4 queue.0 ++ spelled_id id.0) front last) (t.fits, u.fits))
        | inr none ↦ absurd (outside_apart r x none.1)
      ]
    ]
  where
    done : OpView → Reading → Result (OpView × Reading) EntryFault
    done op after = Ok (op, after)

pub op_format : IsFormat op_at spelled_op IsOp
op_format = record { again = op_again; took = op_took }

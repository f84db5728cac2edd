use Rattle.std.proofs.Common.{◌≡◌, ◌+◌, ◌++◌, ℕ, List, length, take, drop, vec_len, sym, ◌∙◌, ap, subst, arith}
use Rattle.std.specs.List.{All}
use Rattle.std.proofs.lemmas.List.Elements.{All-cons}
use Rattle.mqb_outside.specs.lemmas.Steps.{length-written}
use Rattle.mqb_disk.specs.History.{Event, Wrote, fits, held, history, reaches_within}
use Rattle.mqb_disk.specs.declared.trace_disk.Call.{Call}
use Rattle.mqb_disk.proofs.Histories.{history_wrote, fits_more}
use Rattle.mqb_disk.proofs.trace_disk.TraceDisk.put.Goals as goal

pub returns-clause-kept : goal.returns-clause-kept
returns-clause-kept c =
    let kept = c.args.self.now.bytes in
    let size : vec_len kept ≡ length kept.items = omega arith in
    history_wrote kept.items _ c.args.bytes.now c.args.self.now.calls.items _ c.args.at c.len.result (subst (λ (k : ℕ). All (fits k) c.args.self.now.calls.items) size c.args.self.now.within) (omega (arith, c.len.ensures)) c.in-Ok.ensures.items c.push_reserved.ensures.items

pub invariant_of-self : goal.invariant_of-self
invariant_of-self c =
    let kept = c.args.self.now.bytes in
    let bytes = c.args.bytes.now in
    let size : vec_len kept ≡ length kept.items = omega arith in
    let history_is = history_wrote kept.items c.extend_from_slice.new.self.items bytes c.args.self.now.calls.items c.push_reserved.new.self.items c.args.at c.len.result (subst (λ (k : ℕ). All (fits k) c.args.self.now.calls.items) size c.args.self.now.within) (omega (arith, c.len.ensures)) c.in-Ok.ensures.items c.push_reserved.ensures.items in
    let larger : ℕ = vec_len c.extend_from_slice.new.self in
    record {
      within = subst (λ (l : List Call). All (fits larger) l) (sym c.push_reserved.ensures.items)
          (fits_more (vec_len kept) larger c.args.self.now.calls.items _ (omega (arith, c.in-Ok.ensures.len)) c.args.self.now.within (omega (arith, c.len.ensures, c.in-Ok.ensures.len)));
      same = c.write.ensures.written ∙ ap (λ (l : List ℕ). take c.args.at l ++ bytes ++ drop (c.args.at + length bytes) l) c.args.self.now.same ∙ ap held (sym history_is);
      calls_room = omega (arith, c.push_reserved.ensures.len, c.push_reserved.ensures.capacity, c.args.self.now.calls_room, c.requires.left);
      reads_room = omega (arith, c.args.self.now.reads_room);
      grown = omega (arith, c.args.self.now.grown, c.requires.place, c.in-Ok.ensures.len, length-written c.args.at bytes c.args.self.now.current.contents c.write.new.self.contents c.requires.place c.write.ensures.written);
      bytes_fit = omega (arith, c.requires.fits, c.in-Ok.ensures.len, c.write.ensures.room);
      bytes_room = omega (arith, c.args.self.now.bytes_room, c.write.ensures.room);
      bounded = subst (λ (k : ℕ). All (reaches_within k) (history c.extend_from_slice.new.self.items c.push_reserved.new.self.items)) (sym c.write.ensures.room)
          (subst (λ (l : List Event). All (reaches_within c.args.self.now.current.room) l) (sym history_is)
          (All-cons (reaches_within c.args.self.now.current.room) (Wrote c.args.at bytes) (history kept.items c.args.self.now.calls.items) (omega (arith, c.args.self.now.grown, c.requires.place, c.requires.fits)) c.args.self.now.bounded));
      small = omega (arith, c.args.self.now.small, c.write.ensures.room);
    }

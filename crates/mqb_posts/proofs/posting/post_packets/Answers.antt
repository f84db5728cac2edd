use Rattle.std.proofs.Common.{◌+◌, ◌<◌, ◌≤◌, arith, length, rules, subst, sym}
use Rattle.std.specs.Prelude.{List, ℕ}
use Rattle.mqb_posts.proofs.Packets.{all_added, begins_so, step_added, step_of, step_refused, some_bytes}
use Rattle.mqb_posts.proofs.posting.post_packets.Goals as goal

pub first_size-size-requires : goal.first_size-size-requires
first_size-size-requires g c = begins_so _ _ _ _ _ (c.loop-at.invariant.each _ c.requires.packets.writable c.requires.packets.are) (omega arith)

pub overflow_add-at : goal.overflow_add-at
overflow_add-at g c = let step = step_of _ _ _ _ _ _ (c.loop-at.invariant.each _ c.requires.packets.writable c.requires.packets.are) (omega arith) c.first_size-size.ensures in
    let fits : c.loop-at.at + c.first_size-size.result ≤ length c.args.bytes.now = step.fits in search rules

pub slice_bounds-post-end : goal.slice_bounds-post-end
slice_bounds-post-end g c = let step = step_of _ _ _ _ _ _ (c.loop-at.invariant.each _ c.requires.packets.writable c.requires.packets.are) (omega arith) c.first_size-size.ensures in
    let fits : c.loop-at.at + c.first_size-size.result ≤ length c.args.bytes.now = step.fits in search rules

pub post-requires-clause-some : goal.post-requires-clause-some
post-requires-clause-some g c = let step = step_of _ _ _ _ _ _ (c.loop-at.invariant.each _ c.requires.packets.writable c.requires.packets.are) (omega arith) c.first_size-size.ensures in
    let P : List ℕ → Type 0 = λ l. 0 < length l in subst P (sym step.slice) (some_bytes _ step.at_hand.writable)

pub returns-in-Err : goal.returns-in-Err
returns-in-Err g c packets w are = let step = step_of packets _ _ _ _ _ (c.loop-at.invariant.each packets w are) (omega arith) c.first_size-size.ensures in
    step_refused packets _ _ _ _ _ _ _ step c.in-Err.ensures

pub loop-at-smaller : goal.loop-at-smaller
loop-at-smaller g c = let step = step_of _ _ _ _ _ _ (c.loop-at.invariant.each _ c.requires.packets.writable c.requires.packets.are) (omega arith) c.first_size-size.ensures in
    let some : 0 < c.first_size-size.result = step.some in omega arith

pub loop-at-preserved : goal.loop-at-preserved
loop-at-preserved g c = let step = step_of _ _ _ _ _ _ (c.loop-at.invariant.each _ c.requires.packets.writable c.requires.packets.are) (omega arith) c.first_size-size.ensures in
    let posted = c.in_default.ensures {u = tt} in record {
      place = step.fits;
      within = posted.1;
      each = λ packets w are. let other = step_of packets _ _ _ _ _ (c.loop-at.invariant.each packets w are) (omega arith) c.first_size-size.ensures in
          step_added packets _ _ _ _ _ _ other posted.0;
    }

pub returns : goal.returns
returns g c packets w are = (all_added packets _ _ _ _ (c.loop-at.invariant.each packets w are) (omega arith), c.loop-at.invariant.within)

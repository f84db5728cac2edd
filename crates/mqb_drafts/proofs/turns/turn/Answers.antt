use Rattle.std.proofs.Common.{◌≡◌, ◌+◌, ◌∷◌, refl, ap, sym, ◌∙◌, subst, arith, length, List}
use Rattle.mqb_base.specs.Rooms.{WithRooms}
use Rattle.mqb_contents.specs.mqb_model.state.State.{State}
use Rattle.mqb_contents.specs.Changes.{AllReady, Can, HasRoom, changed, held, held_back, inverse, lists_after, messages, messages_back, redone, rooms_redone}
use Rattle.mqb_contents.specs.Rooms.{StateRooms}
use Rattle.mqb_contents.specs.declared.change.Change.{Change}
use Rattle.mqb_contents.proofs.Laws.{held_of_inverse}
use Rattle.mqb_contents.proofs.Ready.{can_as, ready_as, ready_back, redone_as, redone_back, room_as}
use Rattle.mqb_drafts.proofs.turns.turn.Goals as goal

pub loop-change-preserved : goal.loop-change-preserved
loop-change-preserved c =
    let w : WithRooms State StateRooms = c.loop-change.contents in
    let ch : Change = c.in-Some.change in
    let cs : List Change = c.pop.new.self.items in
    let on : List Change = c.loop-change.onto.items in
    let popped : c.loop-change.from.items ≡ ch ∷ cs = ap (λ f. f.items) c.in-Some.ensures in
    let pushed : c.push.new.self.items ≡ inverse w ch ∷ on = cc in
    let same : c.push.new.self.room ≡ c.loop-change.onto.room = cc in
    let made : c.change-back.new.self ≡ changed w ch = c.change-back.ensures.changed in
    let all : AllReady w (ch ∷ cs) = subst (λ (l : List Change). AllReady w l) popped c.loop-change.invariant.ready in
    let can : Can (lists_after w.lists ch) (inverse w ch) =
    can_as (ap (λ (u : WithRooms State StateRooms). u.lists) made) c.change-back.ensures.inverse c.change-back.ensures.can in
    let has : HasRoom (changed w ch) (inverse w ch) = room_as made c.change-back.ensures.inverse c.change-back.ensures.room in
    let holds : held (inverse w ch) ≡ held_back ch = held_of_inverse w ch all.0 in
    let total : messages_back c.loop-change.from.items ≡ held_back ch + messages_back cs = ap messages_back popped in
    let total_on : messages c.push.new.self.items ≡ held (inverse w ch) + messages on = ap messages pushed in
    record {
      ready = ready_as made refl all.2;
      made = ap (λ (u : WithRooms State StateRooms). redone u.lists cs) made
          ∙ (sym (ap (λ (l : List Change). redone w.lists l) popped) ∙ c.loop-change.invariant.made);
      rooms = ap (λ (u : WithRooms State StateRooms). rooms_redone u.rooms cs) made
          ∙ (sym (ap (λ (l : List Change). rooms_redone w.rooms l) popped) ∙ c.loop-change.invariant.rooms);
      room = let n : length c.loop-change.from.items ≡ length (ch ∷ cs) = ap length popped in
          let m : length c.push.new.self.items ≡ length (inverse w ch ∷ on) = ap length pushed in
          omega (arith, n, m, same, c.loop-change.invariant.room);
      ready_back = ready_as made pushed (ready_back w ch on all.0 all.1 can has c.loop-change.invariant.ready_back);
      made_back = redone_as (ap (λ (u : WithRooms State StateRooms). u.lists) made) pushed ∙ (redone_back w ch on all.0 ∙ c.loop-change.invariant.made_back);
      count = omega (arith, holds, total, total_on, c.loop-change.invariant.count);
    }

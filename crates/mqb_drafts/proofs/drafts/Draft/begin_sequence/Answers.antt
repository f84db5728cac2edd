use Rattle.std.proofs.Common.{◌≡◌, List, length, sym, ap, ◌∙◌}
use Rattle.mqb_base.specs.Rooms.{WithRooms}
use Rattle.mqb_contents.specs.Rooms.{StateRooms}
use Rattle.mqb_contents.specs.mqb_model.state.State.{State}
use Rattle.std.proofs.lemmas.List.{length-map}
use Rattle.mqb_contents.specs.Rows.{with_out}
use Rattle.mqb_contents.proofs.Grown.{grown_trans}
use Rattle.mqb_contents.specs.mqb_model.rules.Sequences.{new_sequence, with_kept, with_sequence}
use Rattle.mqb_orders.specs.Rows.{Row, row_of}
use Rattle.mqb_queue.proofs.Changed.{on_ok}
use Rattle.mqb_drafts.specs.Drafts.{Drafted}
use Rattle.mqb_drafts.proofs.Outs.{first_joined, two_steps}
use Rattle.mqb_drafts.proofs.drafts.Draft.begin_sequence.Goals as goal

pub returns-clause-ok : goal.returns-clause-ok
returns-clause-ok c =
    let s = c.args.self.now.effect.state in
    let row = new_sequence s c.args.peer c.args.message.destination c.args.now in
    let last : length c.outs.result.now ≡ length s.outs =
    sym (length-map c.outs.result.now row_of)
    ∙ (ap (λ (l : List Row). length l) c.outs.ensures.rows ∙ (ap (λ (w : WithRooms State StateRooms). length w.lists.outs) c.deref.ensures ∙ ap (λ (d : Drafted). length d.effect.state.outs) c.self.view_is)) in
    on_ok c.continue_sequence.result c.continue_sequence.ensures.ok (two_steps c.args.self.now.effect c.add_sequence.new.self.effect c.continue_sequence.new.self.effect
    (with_sequence s row) (with_sequence s (with_kept c.args.message row)) (λ t. with_out (with_kept c.args.message) t (length c.outs.result.now))
    c.in_ok-add_sequence.ensures.ok (ap (λ k. with_out (with_kept c.args.message) (with_sequence s row) k) last ∙ first_joined s row c.args.message))

pub returns-clause-grown : goal.returns-clause-grown
returns-clause-grown c = grown_trans c.add_sequence.ensures.grown c.continue_sequence.ensures.grown

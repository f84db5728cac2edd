use Rattle.std.proofs.Common.{◌≡◌, ◌++◌, ◌<◌, ◌∙◌, ◌≤◌, ℕ, List, length, get_or, ap, subst, sym, arith}
use Rattle.std.proofs.lemmas.List.{append-nil, drop_all}
use Rattle.std.proofs.lemmas.List.Elements.{All-nil}
use Rattle.std.specs.List.{All, flat_map}
use Rattle.std.specs.Vec.{vec_capacity}
use Rattle.mqb_base.specs.declared.heads.SessionHead.{SessionHead}
use Rattle.mqb_model.specs.calls.pump.Candidates.{Candidate}
use Rattle.mqb_packet.specs.Plain.{plain_spelling}
use Rattle.mqb_packet.specs.Values.{IsPacket}
use Rattle.mqb_model.specs.calls.pump.Pump.{packet_for}
use Rattle.mqb_choosing.specs.declared.choice.Choice.{Choice}
use Rattle.mqb_choosing.specs.Choices.{IsThere, shown_in}
use Rattle.mqb_choosing.proofs.Settled.{one_counted}
use Rattle.mqb_choosing.proofs.Walks.{all_more, front_read, one_has_room, rest_has_room, text_more}
use Rattle.mqb_choosing.proofs.spelling.put_choices.Goals as goal

pub put_choice-requires-clause-room : goal.put_choice-requires-clause-room
put_choice-requires-clause-room c =
    let choices : List Choice = c.args.choices.now.choices in
    let x : Choice = c.choice-item.result in
    let within : c.loop-choice.choice-index < length choices = omega (arith, c.loop-choice-test.true, ap length c.as_slice-choice-items.ensures) in
    let is : x ≡ get_or choices c.loop-choice.choice-index x = c.choice-item.is ∙ ap (λ (cs : List Choice). get_or cs c.loop-choice.choice-index x) c.as_slice-choice-items.ensures in
    one_has_room c.args.contents.now.lists choices c.loop-choice.choice-index x (length c.loop-choice.out.items) (vec_capacity c.loop-choice.out)
    (front_read choices c.loop-choice.choice-index x within is) (subst (IsThere c.args.contents.now.lists) (sym is) (c.requires.there c.loop-choice.choice-index x within)) c.loop-choice.invariant.room

pub loop-choice-preserved : goal.loop-choice-preserved
loop-choice-preserved c =
    let s = c.args.contents.now.lists in
    let spell : Candidate × SessionHead → List ℕ = λ given. plain_spelling (packet_for c.args.to c.args.now given) in
    let choices : List Choice = c.args.choices.now.choices in
    let x : Choice = c.choice-item.result in
    let within : c.loop-choice.choice-index < length choices = omega (arith, c.loop-choice-test.true, ap length c.as_slice-choice-items.ensures) in
    let is : x ≡ get_or choices c.loop-choice.choice-index x = c.choice-item.is ∙ ap (λ (cs : List Choice). get_or cs c.loop-choice.choice-index x) c.as_slice-choice-items.ensures in
    let front = front_read choices c.loop-choice.choice-index x within is in
    let enough = rest_has_room s spell choices c.loop-choice.choice-index x c.loop-choice.out.items c.put_choice.new.out.items (vec_capacity c.loop-choice.out)
    (one_counted c.plain_size.ensures c.args.to c.args.now) front c.put_choice.ensures.put c.loop-choice.invariant.room in
    record {
      room = omega (arith, enough, c.put_choice.ensures.grown);
      text = text_more s spell choices c.loop-choice.choice-index x c.loop-choice.out.items c.put_choice.new.out.items
          (c.args.out.now.items ++ flat_map spell (shown_in s choices)) front c.put_choice.ensures.put c.loop-choice.invariant.text;
      fits = λ behind. c.loop-choice.invariant.fits (all_more s (λ given. IsPacket (packet_for c.args.to c.args.now given)) choices c.loop-choice.choice-index x
          front c.put_choice.ensures.fits behind);
    }

pub returns-clause-put : goal.returns-clause-put
returns-clause-put c =
    let s = c.args.contents.now.lists in
    let spell : Candidate × SessionHead → List ℕ = λ given. plain_spelling (packet_for c.args.to c.args.now given) in
    let choices : List Choice = c.args.choices.now.choices in
    let past : length choices ≤ c.loop-choice.choice-index = omega (arith, c.loop-choice-test.false, ap length c.as_slice-choice-items.ensures) in
    sym (append-nil c.loop-choice.out.items)
    ∙ sym (ap (λ (cs : List Choice). c.loop-choice.out.items ++ flat_map spell (shown_in s cs)) (drop_all c.loop-choice.choice-index choices past))
    ∙ c.loop-choice.invariant.text

pub returns-clause-fits : goal.returns-clause-fits
returns-clause-fits c =
    let s = c.args.contents.now.lists in
    let choices : List Choice = c.args.choices.now.choices in
    let past : length choices ≤ c.loop-choice.choice-index = omega (arith, c.loop-choice-test.false, ap length c.as_slice-choice-items.ensures) in
    c.loop-choice.invariant.fits (subst (λ (cs : List Choice). All (λ given. IsPacket (packet_for c.args.to c.args.now given)) (shown_in s cs))
    (sym (drop_all c.loop-choice.choice-index choices past)) (All-nil (λ given. IsPacket (packet_for c.args.to c.args.now given))))

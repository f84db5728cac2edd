use Rattle.std.proofs.Common.{◌≡◌, ◌∙◌, List, ap, map, subst, sym}
use Rattle.std.proofs.lemmas.List.Elements.{All-from_recursion}
use Rattle.std.specs.Prelude.{sum_by}
use Rattle.mqb_base.specs.declared.heads.SessionHead.{SessionHead}
use Rattle.mqb_session.specs.State as one_end
use Rattle.mqb_model.specs.calls.pump.Candidates.{Candidate}
use Rattle.mqb_model.specs.calls.pump.Choosing.{candidate_size, chosen, with_heads}
use Rattle.mqb_model.specs.state.State.{State}
use Rattle.mqb_choosing.specs.Choices.{IsSendable, IsThere, shown}
use Rattle.mqb_choosing.specs.Going.{Going, Offers, candidates_to, known, nothing_chosen}
use Rattle.mqb_choosing.proofs.Ended.{Ended, all_shown, as_many, each_shown, ended, headed, waiting_sendable}
use Rattle.mqb_choosing.proofs.Sendable.{heads_sendable, valid_sendable}
use Rattle.mqb_choosing.proofs.Settled.{heads_counted}
use Rattle.mqb_choosing.proofs.choosing.choose.Goals as goal

pub offer_all-requires-clause-sendable : goal.offer_all-requires-clause-sendable
offer_all-requires-clause-sendable c = valid_sendable c.args.contents.now.lists c.requires.valid c.requires.express

-- the end of it
the_end : (s : State) (session : one_end.State) (start g : Going) (cs : List Candidate) → start ≡ nothing_chosen session → Offers s start g cs → Ended s session g cs
the_end s session start g cs is offers = ended s session g cs (subst (λ (start : Going). Offers s start g cs) is offers)

pub returns-clause-packets : goal.returns-clause-packets
returns-clause-packets c =
    let s = c.args.contents.now.lists in
    let cs : List Candidate = candidates_to s (known c.args.session c.args.cursors.now c.args.owes.now) c.args.now c.args.peer in
    all_shown (shown s) c.offer_all.new.self.choices (with_heads c.args.session (chosen c.args.session 0 0 cs))
    (the_end s c.args.session c.new-choices.result c.offer_all.new.self cs c.new-choices.ensures c.in_ok-offer_all.ensures).packets

pub returns-clause-there : goal.returns-clause-there
returns-clause-there c =
    let s = c.args.contents.now.lists in
    let cs : List Candidate = candidates_to s (known c.args.session c.args.cursors.now c.args.owes.now) c.args.now c.args.peer in
    All-from_recursion (IsThere s) c.offer_all.new.self.choices
    (each_shown (λ given. IsSendable given.0) (shown s) c.offer_all.new.self.choices (with_heads c.args.session (chosen c.args.session 0 0 cs))
    (the_end s c.args.session c.new-choices.result c.offer_all.new.self cs c.new-choices.ensures c.in_ok-offer_all.ensures).packets
    (heads_sendable c.args.session 0 0 cs (waiting_sendable s (known c.args.session c.args.cursors.now c.args.owes.now) c.args.now c.args.peer
    (valid_sendable s c.requires.valid c.requires.express))))

pub returns-clause-candidates : goal.returns-clause-candidates
returns-clause-candidates c =
    let s = c.args.contents.now.lists in
    let cs : List Candidate = candidates_to s (known c.args.session c.args.cursors.now c.args.owes.now) c.args.now c.args.peer in
    ap (λ (given : List (Candidate × SessionHead)). map (λ g. g.0) given)
    (all_shown (shown s) c.offer_all.new.self.choices (with_heads c.args.session (chosen c.args.session 0 0 cs))
    (the_end s c.args.session c.new-choices.result c.offer_all.new.self cs c.new-choices.ensures c.in_ok-offer_all.ensures).packets)
    ∙ headed c.args.session (chosen c.args.session 0 0 cs)

pub returns-clause-count : goal.returns-clause-count
returns-clause-count c =
    let s = c.args.contents.now.lists in
    let cs : List Candidate = candidates_to s (known c.args.session c.args.cursors.now c.args.owes.now) c.args.now c.args.peer in
    as_many (shown s) (λ given. given.0) c.offer_all.new.self.choices (with_heads c.args.session (chosen c.args.session 0 0 cs)) (chosen c.args.session 0 0 cs)
    (the_end s c.args.session c.new-choices.result c.offer_all.new.self cs c.new-choices.ensures c.in_ok-offer_all.ensures).packets
    (headed c.args.session (chosen c.args.session 0 0 cs))

pub returns-clause-session : goal.returns-clause-session
returns-clause-session c =
    let s = c.args.contents.now.lists in
    let cs : List Candidate = candidates_to s (known c.args.session c.args.cursors.now c.args.owes.now) c.args.now c.args.peer in
    (the_end s c.args.session c.new-choices.result c.offer_all.new.self cs c.new-choices.ensures c.in_ok-offer_all.ensures).session

pub returns-clause-bytes : goal.returns-clause-bytes
returns-clause-bytes c =
    let s = c.args.contents.now.lists in
    let cs : List Candidate = candidates_to s (known c.args.session c.args.cursors.now c.args.owes.now) c.args.now c.args.peer in
    (the_end s c.args.session c.new-choices.result c.offer_all.new.self cs c.new-choices.ensures c.in_ok-offer_all.ensures).bytes

pub returns-clause-room : goal.returns-clause-room
returns-clause-room c =
    let s = c.args.contents.now.lists in
    let cs : List Candidate = candidates_to s (known c.args.session c.args.cursors.now c.args.owes.now) c.args.now c.args.peer in
    let end = the_end s c.args.session c.new-choices.result c.offer_all.new.self cs c.new-choices.ensures c.in_ok-offer_all.ensures in
    end.bytes
    ∙ sym (heads_counted c.args.session (chosen c.args.session 0 0 cs))
    ∙ sym (ap (λ (given : List (Candidate × SessionHead)). sum_by (λ given. candidate_size given.0) given)
    (all_shown (shown s) c.offer_all.new.self.choices (with_heads c.args.session (chosen c.args.session 0 0 cs)) end.packets))

pub returns-clause-any : goal.returns-clause-any
returns-clause-any c =
    let s = c.args.contents.now.lists in
    let cs : List Candidate = candidates_to s (known c.args.session c.args.cursors.now c.args.owes.now) c.args.now c.args.peer in
    (the_end s c.args.session c.new-choices.result c.offer_all.new.self cs c.new-choices.ensures c.in_ok-offer_all.ensures).any

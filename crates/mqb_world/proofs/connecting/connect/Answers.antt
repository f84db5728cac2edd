use Rattle.std.proofs.Common.{◌≡◌, [], false, rules, sym, subst, ◌∙◌}
use Rattle.mqb_model.specs.managers.Manager.{is_down}
use Rattle.mqb_moves.specs.Seats.{seated}
use Rattle.mqb_network.specs.Connecting as network
use Rattle.mqb_network.specs.Courses.{course_from}
use Rattle.mqb_network.specs.Network.{Network}
use Rattle.mqb_script.specs.Managers.{other}
use Rattle.mqb_turns.specs.mqb_seats.lemmas.Keeping.{stored_then_lasts}
use Rattle.mqb_traffic.specs.Networks.{index_of}
use Rattle.mqb_world.proofs.Joined.{connected_short, connected_so, none_linked, ok_of, up_so}
use Rattle.mqb_world.proofs.Proceeding.{known_so, unlinked_so}
use Rattle.mqb_world.specs.Sides.{network_in, world}
use Rattle.mqb_world.proofs.connecting.connect.Goals as goal

pub set_up-requires-clause-quiet : goal.set_up-requires-clause-quiet
set_up-requires-clause-quiet g c = let a_up : is_down (seated c.args.alpha.now) ≡ false = search rules in let b_up : is_down (seated c.args.beta.now) ≡ false = search rules in
    let linked : c.is_linked.result ≡ false = search rules in let none = none_linked c.args.traffic.now.link (sym c.is_linked.ensures.linked ∙ linked) in
    let w = world c.args.alpha.now c.args.beta.now c.args.traffic.now in let free = unlinked_so w _ c.requires.ordered in
    let is_up = up_so c.args.which c.args.alpha.now c.args.beta.now c.args.traffic.now c.args.now c.args.own_window
    c.args.other_window none (known_so w _ c.requires.ordered) a_up b_up (free.alpha none) (free.beta none) in
    subst (λ (n : Network). (network.set_up (index_of c.args.which) (index_of (other c.args.which)) c.args.now (course_from n)).written ≡ []) (sym c.link_both.ensures.network) is_up.written

pub set_up-requires-clause-stands : goal.set_up-requires-clause-stands
set_up-requires-clause-stands g c = let a_up : is_down (seated c.args.alpha.now) ≡ false = search rules in let b_up : is_down (seated c.args.beta.now) ≡ false = search rules in
    let linked : c.is_linked.result ≡ false = search rules in let none = none_linked c.args.traffic.now.link (sym c.is_linked.ensures.linked ∙ linked) in
    let w = world c.args.alpha.now c.args.beta.now c.args.traffic.now in let free = unlinked_so w _ c.requires.ordered in
    let is_up = up_so c.args.which c.args.alpha.now c.args.beta.now c.args.traffic.now c.args.now c.args.own_window
    c.args.other_window none (known_so w _ c.requires.ordered) a_up b_up (free.alpha none) (free.beta none) in
    subst (λ (n : Network). (network.set_up (index_of c.args.which) (index_of (other c.args.which)) c.args.now (course_from n)).network.connections ≡ [] → ⊥) (sym c.link_both.ensures.network) is_up.stands

pub returns-in-Err-clause-short : goal.returns-in-Err-clause-short
returns-in-Err-clause-short g c = let a_up : is_down (seated c.args.alpha.now) ≡ false = search rules in let b_up : is_down (seated c.args.beta.now) ≡ false = search rules in
    let linked : c.is_linked.result ≡ false = search rules in let none = none_linked c.args.traffic.now.link (sym c.is_linked.ensures.linked ∙ linked) in
    connected_short c.args.which c.args.alpha.now c.args.beta.now c.args.traffic.now (g.M.Medium.strings c.args.medium.now) c.args.now c.args.own_window
    c.args.other_window a_up b_up none (network_in c.link_both.new.alpha c.link_both.new.beta c.link_both.new.traffic) c.link_both.ensures.network
    _ _ c.set_up.result c.in-Err.fault c.in-Err.is c.set_up.ensures.short

pub returns-clause-step : goal.returns-clause-step
returns-clause-step g c = let a_up : is_down (seated c.args.alpha.now) ≡ false = search rules in let b_up : is_down (seated c.args.beta.now) ≡ false = search rules in
    let linked : c.is_linked.result ≡ false = search rules in let none = none_linked c.args.traffic.now.link (sym c.is_linked.ensures.linked ∙ linked) in
    let w = world c.args.alpha.now c.args.beta.now c.args.traffic.now in let free = unlinked_so w _ c.requires.ordered in
    let is_up = up_so c.args.which c.args.alpha.now c.args.beta.now c.args.traffic.now c.args.now c.args.own_window
    c.args.other_window none (known_so w _ c.requires.ordered) a_up b_up (free.alpha none) (free.beta none) in
    connected_so c.args.which c.args.alpha.now c.args.beta.now c.args.traffic.now (g.M.Medium.strings c.args.medium.now) c.args.now c.args.own_window
    c.args.other_window a_up b_up none (network_in c.link_both.new.alpha c.link_both.new.beta c.link_both.new.traffic) c.link_both.ensures.network
    is_up c.link_both.new.alpha c.link_both.new.beta c.link_both.ensures.alpha c.link_both.ensures.beta _ _ _ (ok_of c.set_up.result c.in_default.not-Err c.set_up.ensures.comes) c.count-before.result c.count-before.ensures

pub returns-in-Err-clause-alpha : goal.returns-in-Err-clause-alpha
returns-in-Err-clause-alpha g c = stored_then_lasts c.requires.alpha c.link_both.ensures.alpha c.set_up.ensures.alpha

pub returns-in-Err-clause-beta : goal.returns-in-Err-clause-beta
returns-in-Err-clause-beta g c = stored_then_lasts c.requires.beta c.link_both.ensures.beta c.set_up.ensures.beta

pub returns-clause-alpha : goal.returns-clause-alpha
returns-clause-alpha g c = stored_then_lasts c.requires.alpha c.link_both.ensures.alpha c.set_up.ensures.alpha

pub returns-clause-beta : goal.returns-clause-beta
returns-clause-beta g c = stored_then_lasts c.requires.beta c.link_both.ensures.beta c.set_up.ensures.beta

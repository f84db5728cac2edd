use Rattle.std.proofs.Common.{◌≡◌, ap, false, true, sym, ◌∙◌, rules}
use Rattle.mqb_deliveries.specs.lemmas.Delivered.{disk_fails, never_underway}
use Rattle.mqb_moves.specs.Seats.{seated}
use Rattle.mqb_turns.specs.mqb_seats.lemmas.Keeping.{lasts_same, lasts_stored}
use Rattle.mqb_script.specs.declared.managers.Which.TheVariants.{Alpha, Beta}
use Rattle.mqb_traffic.specs.Networks.{connections_of, note_of, notes_of}
use Rattle.mqb_turns.specs.Sides.{side}
use Rattle.mqb_world.proofs.Delivering.{gone_delivered, is_for_other, note_within, packet_there, passed_delivered, sent_numbered}
use Rattle.mqb_world.specs.Sides.{network_in, world}
use Rattle.mqb_world.proofs.deliveries.deliver.Goals as goal

pub returns-then-not-is_underway-clause-delivered : goal.returns-then-not-is_underway-clause-delivered
returns-then-not-is_underway-clause-delivered g c = let gone : c.is_underway.result ≡ false = search rules in λ packets writable are.
    let is = sent_numbered c.args.traffic.now c.args.k c.note_at.result c.in-Some.sent c.note_at.ensures c.in-Some.is in
    gone_delivered (world c.args.alpha.now c.args.beta.now c.args.traffic.now) c.args.k c.args.now c.in-Some.sent packets is (packet_there c.args.traffic.now c.args.k c.in-Some.sent _ packets c.requires.number is c.requires.noted are)
    (sym (c.is_underway.ensures (seated c.args.alpha.now) (seated c.args.beta.now)) ∙ gone)

pub packet_at-packet-requires-clause-last : goal.packet_at-packet-requires-clause-last
packet_at-packet-requires-clause-last g c = note_within c.args.traffic.now c.args.k c.in-Some.sent _ (sent_numbered c.args.traffic.now c.args.k c.note_at.result c.in-Some.sent c.note_at.ensures c.in-Some.is) c.requires.noted

pub returns-in_err-pass-in-Alpha-clause-beta_idle : goal.returns-in_err-pass-in-Alpha-clause-beta_idle
returns-in_err-pass-in-Alpha-clause-beta_idle g c = let underway : c.is_underway.result ≡ true = search rules in λ none.
    absurd (never_underway (network_in c.args.alpha.now c.args.beta.now c.args.traffic.now) (note_of c.in-Some.sent) (sym (c.is_underway.ensures (seated c.args.alpha.now) (seated c.args.beta.now)) ∙ underway) (ap connections_of none))

pub returns-in_ok-pass-in-Alpha-clause-beta_idle : goal.returns-in_ok-pass-in-Alpha-clause-beta_idle
returns-in_ok-pass-in-Alpha-clause-beta_idle g c = let underway : c.is_underway.result ≡ true = search rules in λ none.
    absurd (never_underway (network_in c.args.alpha.now c.args.beta.now c.args.traffic.now) (note_of c.in-Some.sent) (sym (c.is_underway.ensures (seated c.args.alpha.now) (seated c.args.beta.now)) ∙ underway) (ap connections_of none))

pub returns-in_ok-pass-in-Alpha-clause-delivered : goal.returns-in_ok-pass-in-Alpha-clause-delivered
returns-in_ok-pass-in-Alpha-clause-delivered g c = let ok = c.in_ok-pass-in-Alpha.ensures {u = tt} in λ packets writable are.
    let is = sent_numbered c.args.traffic.now c.args.k c.note_at.result c.in-Some.sent c.note_at.ensures c.in-Some.is in let there = packet_there c.args.traffic.now c.args.k c.in-Some.sent _ packets c.requires.number is c.requires.noted are in
    passed_delivered Beta (side c.args.beta.now c.args.alpha.now c.args.traffic.now) (side c.pass.new.own c.pass.new.other c.pass.new.traffic) _ _ _
    c.args.k c.args.now c.in-Some.sent there.0 c.in_ok-pass-in-Alpha.field-0 packets is there.1 (ok.passed there.0 (c.packet_at-packet.ensures.packet packets writable are ∙ there.1))

pub returns-in_ok-pass-in-Alpha-clause-beta_faults : goal.returns-in_ok-pass-in-Alpha-clause-beta_faults
returns-in_ok-pass-in-Alpha-clause-beta_faults g c = let ok = c.in_ok-pass-in-Alpha.ensures {u = tt} in let is = sent_numbered c.args.traffic.now c.args.k c.note_at.result c.in-Some.sent c.note_at.ensures c.in-Some.is in
    let there = packet_there c.args.traffic.now c.args.k c.in-Some.sent _ c.requires.packets.packets c.requires.number is c.requires.noted c.requires.packets.are in
    let one = ok.passed there.0 (c.packet_at-packet.ensures.packet c.requires.packets.packets c.requires.packets.writable c.requires.packets.are ∙ there.1) in
    disk_fails Beta (side c.args.beta.now c.args.alpha.now c.args.traffic.now) (side c.pass.new.own c.pass.new.other c.pass.new.traffic) _ _ _
    (note_of c.in-Some.sent) there.0 c.args.k c.args.now c.in_ok-pass-in-Alpha.field-0 is one (notes_of c.args.traffic.now) 1
    (is_for_other c.args.traffic.now c.args.k 1 c.in-Some.sent Alpha is c.in-Alpha.is)

pub returns-in_err-pass-in-Beta-clause-alpha_idle : goal.returns-in_err-pass-in-Beta-clause-alpha_idle
returns-in_err-pass-in-Beta-clause-alpha_idle g c = let underway : c.is_underway.result ≡ true = search rules in λ none.
    absurd (never_underway (network_in c.args.alpha.now c.args.beta.now c.args.traffic.now) (note_of c.in-Some.sent) (sym (c.is_underway.ensures (seated c.args.alpha.now) (seated c.args.beta.now)) ∙ underway) (ap connections_of none))

pub returns-in_ok-pass-in-Beta-clause-alpha_idle : goal.returns-in_ok-pass-in-Beta-clause-alpha_idle
returns-in_ok-pass-in-Beta-clause-alpha_idle g c = let underway : c.is_underway.result ≡ true = search rules in λ none.
    absurd (never_underway (network_in c.args.alpha.now c.args.beta.now c.args.traffic.now) (note_of c.in-Some.sent) (sym (c.is_underway.ensures (seated c.args.alpha.now) (seated c.args.beta.now)) ∙ underway) (ap connections_of none))

pub returns-in_ok-pass-in-Beta-clause-delivered : goal.returns-in_ok-pass-in-Beta-clause-delivered
returns-in_ok-pass-in-Beta-clause-delivered g c = let ok = c.in_ok-pass-in-Beta.ensures {u = tt} in λ packets writable are.
    let is = sent_numbered c.args.traffic.now c.args.k c.note_at.result c.in-Some.sent c.note_at.ensures c.in-Some.is in let there = packet_there c.args.traffic.now c.args.k c.in-Some.sent _ packets c.requires.number is c.requires.noted are in
    passed_delivered Alpha (side c.args.alpha.now c.args.beta.now c.args.traffic.now) (side c.pass-in-Beta.new.own c.pass-in-Beta.new.other c.pass-in-Beta.new.traffic) _ _ _
    c.args.k c.args.now c.in-Some.sent there.0 c.in_ok-pass-in-Beta.field-0 packets is there.1 (ok.passed there.0 (c.packet_at-packet.ensures.packet packets writable are ∙ there.1))

pub returns-in_ok-pass-in-Beta-clause-alpha_faults : goal.returns-in_ok-pass-in-Beta-clause-alpha_faults
returns-in_ok-pass-in-Beta-clause-alpha_faults g c = let ok = c.in_ok-pass-in-Beta.ensures {u = tt} in let is = sent_numbered c.args.traffic.now c.args.k c.note_at.result c.in-Some.sent c.note_at.ensures c.in-Some.is in
    let there = packet_there c.args.traffic.now c.args.k c.in-Some.sent _ c.requires.packets.packets c.requires.number is c.requires.noted c.requires.packets.are in
    let one = ok.passed there.0 (c.packet_at-packet.ensures.packet c.requires.packets.packets c.requires.packets.writable c.requires.packets.are ∙ there.1) in
    disk_fails Alpha (side c.args.alpha.now c.args.beta.now c.args.traffic.now) (side c.pass-in-Beta.new.own c.pass-in-Beta.new.other c.pass-in-Beta.new.traffic) _ _ _
    (note_of c.in-Some.sent) there.0 c.args.k c.args.now c.in_ok-pass-in-Beta.field-0 is one (notes_of c.args.traffic.now) 0
    (is_for_other c.args.traffic.now c.args.k 0 c.in-Some.sent Beta is c.in-Beta.is)

pub returns-in_err-pass-in-Alpha-clause-alpha : goal.returns-in_err-pass-in-Alpha-clause-alpha
returns-in_err-pass-in-Alpha-clause-alpha g c = lasts_stored c.requires.alpha c.pass.ensures.beside

pub returns-in_err-pass-in-Beta-clause-beta : goal.returns-in_err-pass-in-Beta-clause-beta
returns-in_err-pass-in-Beta-clause-beta g c = lasts_stored c.requires.beta c.pass-in-Beta.ensures.beside

pub returns-in_ok-pass-in-Alpha-clause-alpha : goal.returns-in_ok-pass-in-Alpha-clause-alpha
returns-in_ok-pass-in-Alpha-clause-alpha g c = lasts_stored c.requires.alpha c.pass.ensures.beside

pub returns-in_ok-pass-in-Beta-clause-beta : goal.returns-in_ok-pass-in-Beta-clause-beta
returns-in_ok-pass-in-Beta-clause-beta g c = lasts_stored c.requires.beta c.pass-in-Beta.ensures.beside

pub returns-in_default-clause-alpha : goal.returns-in_default-clause-alpha
returns-in_default-clause-alpha g c = lasts_same c.requires.alpha

pub returns-in_default-clause-beta : goal.returns-in_default-clause-beta
returns-in_default-clause-beta g c = lasts_same c.requires.beta

pub returns-then-not-is_underway-clause-alpha : goal.returns-then-not-is_underway-clause-alpha
returns-then-not-is_underway-clause-alpha g c = lasts_same c.requires.alpha

pub returns-then-not-is_underway-clause-beta : goal.returns-then-not-is_underway-clause-beta
returns-then-not-is_underway-clause-beta g c = lasts_same c.requires.beta

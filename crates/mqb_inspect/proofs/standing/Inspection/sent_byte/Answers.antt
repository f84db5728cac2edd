use Rattle.std.proofs.Common.{arith, refl}
use Rattle.mqb_inspect.proofs.Going.{sent_bad_came, sent_nothing_came, sent_packet_came, if_ok}
use Rattle.mqb_inspect.proofs.standing.Inspection.sent_byte.Goals as goal

pub invariant_of-self-clause-sent_few : goal.invariant_of-self-clause-sent_few
invariant_of-self-clause-sent_few c = omega (arith, c.take_byte.ensures.few, c.args.self.now.sent_few)

pub returns-in-Nothing-clause-goes : goal.returns-in-Nothing-clause-goes
returns-in-Nothing-clause-goes c = λ h w s.
    sent_nothing_came h w c.args.self.now _ c.args.self.now.sent c.args.byte s
    (record { own = refl; peer = refl; session = refl; sent_links = refl; heard_links = refl; sent_count = refl; heard_count = refl }) refl c.requires.wants.sent_limit refl
    c.in_ok-take_byte.field-0 c.in-Nothing.is c.in_ok-take_byte.ensures.comes c.in_ok-take_byte.ensures.held

pub returns-in-Bad-clause-goes : goal.returns-in-Bad-clause-goes
returns-in-Bad-clause-goes c = λ h w s.
    sent_bad_came h w c.args.self.now _ c.args.self.now.sent c.args.byte s
    (record { own = refl; peer = refl; session = refl; sent_links = refl; heard_links = refl; sent_count = refl; heard_count = refl }) refl c.requires.wants.sent_limit refl
    c.in_ok-take_byte.field-0 c.in-Bad.fault c.in-Bad.is c.in_ok-take_byte.ensures.comes

pub returns-in-Packet-clause-goes : goal.returns-in-Packet-clause-goes
returns-in-Packet-clause-goes c = λ h w s.
    if_ok c.take_sent.result c.take_sent.ensures.takes (λ found t.
    sent_packet_came h w c.args.self.now _ c.args.self.now.sent c.args.byte s
    (record { own = refl; peer = refl; session = refl; sent_links = refl; heard_links = refl; sent_count = refl; heard_count = refl }) refl c.requires.wants.sent_limit refl
    c.in_ok-take_byte.field-0 c.in-Packet.packet c.take_sent.new.self found c.in-Packet.is c.in_ok-take_byte.ensures.comes c.in_ok-take_byte.ensures.held t)

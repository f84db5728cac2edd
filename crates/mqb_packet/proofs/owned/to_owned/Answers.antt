use Rattle.mqb_packet.specs.Parts.{User, seen_user}
use Rattle.mqb_packet.specs.Spelled.{IsLent}
use Rattle.mqb_packet.proofs.WellFormed.{packet_read, user_well_formed}
use Rattle.mqb_packet.proofs.owned.to_owned.Goals as goal

pub owned_user-requires-clause-user : goal.owned_user-requires-clause-user
owned_user-requires-clause-user c =
    let lent = rw c.in-User.is at c.requires in
    (packet_read c.in-User.user.whole.now (User (seen_user c.in-User.user)) lent).user

pub owned_user-requires-clause-props : goal.owned_user-requires-clause-props
owned_user-requires-clause-props c =
    let lent = rw c.in-User.is at c.requires in
    (packet_read c.in-User.user.whole.now (User (seen_user c.in-User.user)) lent).props

pub returns-in_ok-owned_user-in-User-clause-well_formed : goal.returns-in_ok-owned_user-in-User-clause-well_formed
returns-in_ok-owned_user-in-User-clause-well_formed c =
    let lent = rw c.in-User.is at c.requires in
    user_well_formed (seen_user c.in-User.user) c.in_ok-owned_user-in-User.field-0 (packet_read c.in-User.user.whole.now (User (seen_user c.in-User.user)) lent) c.in_ok-owned_user-in-User.ensures

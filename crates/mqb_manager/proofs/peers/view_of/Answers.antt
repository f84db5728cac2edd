use Rattle.mqb_manager.proofs.AddPeer.{peer_size}
use Rattle.mqb_manager.proofs.peers.view_of.Goals as goal

pub returns-clause-size : goal.returns-clause-size
returns-clause-size c =
    peer_size (record { host = c.of-host.result; guid = c.args.identity.now.guid; address = c.args.identity.now.address })
    c.as_slice-name.ensures.name c.address_fits.ensures

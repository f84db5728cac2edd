use Rattle.std.proofs.Common.{◌≡◌, ◌++◌}
use Rattle.std.specs.Option.{option_map}
use Rattle.mqb_net.specs.TwoWays.{left_in}
use Rattle.mqb_net.proofs.two_way.TwoWay.take_in.Given as goal

abbrev pub invariant-loop-piece : goal.invariant-loop-piece
invariant-loop-piece g l = record {
  held : option_map (λ rest. left_in l.self.ahead ++ rest) (g.S.Socket.held l.self.socket) ≡ option_map (λ rest. left_in l.fn.self.ahead ++ rest) (g.S.Socket.held l.fn.self.socket);
  taken : g.S.Socket.taken l.self.socket ≡ g.S.Socket.taken l.fn.self.socket;
  read_faults : l.self.read_faults ≡ l.fn.self.read_faults;
  write_faults : l.self.write_faults ≡ l.fn.self.write_faults;
}

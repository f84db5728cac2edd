use Rattle.std.proofs.Common.{◌≡◌, length}
use Rattle.mqb_serving.proofs.Taking.{TookSoFar}
use Rattle.mqb_serve.proofs.sending.send_all.Given as goal

abbrev pub invariant-loop-rest : goal.invariant-loop-rest
invariant-loop-rest g l = record {
  taken : TookSoFar (g.C.Sink.taken l.initial.conn) (g.C.Sink.taken l.conn) l.bytes l.rest;
  write_faults : g.C.Sink.write_faults l.conn ≡ g.C.Sink.write_faults l.initial.conn;
  held : g.C.Source.held l.conn ≡ g.C.Source.held l.initial.conn;
  read_faults : g.C.Source.read_faults l.conn ≡ g.C.Source.read_faults l.initial.conn;
  given : g.C.Conn.given l.conn ≡ g.C.Conn.given l.initial.conn;
  address : g.C.Conn.address l.conn ≡ g.C.Conn.address l.initial.conn;
  lent : g.C.Conn.lent l.conn ≡ g.C.Conn.lent l.initial.conn;
}

abbrev pub decreases-loop-rest : goal.decreases-loop-rest
decreases-loop-rest g l = length l.rest

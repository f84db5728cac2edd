use Rattle.std.proofs.Common.{◌≡◌, Ok, ℕ}
use Rattle.mqb_serving.specs.Conversations.{Conversation}
use Rattle.mqb_serving.specs.Steps.{Stands}
use Rattle.mqb_serving.proofs.Pumping.{Pumps}
use Rattle.mqb_serve.specs.Talking.{Keeps, stored_of}
use Rattle.mqb_serve.proofs.talk.Talk.pump_to_rest.Given as goal

abbrev pub invariant-loop-pump : goal.invariant-loop-pump
invariant-loop-pump g l = record {
  pumps : (c : Conversation) → Stands c l.fn.self.purpose l.fn.self.moment (stored_of l.fn.manager) l.fn.self.framer
      → Pumps c l._pump (g.C.Sink.taken l.fn.conn) (g.C.Sink.taken l.conn) l.fn.self.purpose l.fn.self.moment (stored_of l.manager) l.fn.self.framer;
  keeps : Keeps {T = ℕ} (g.D.Disk.view l.fn.disk) (g.D.Disk.view l.disk) l.fn.manager l.manager (Ok 0);
  purpose : l.self.purpose ≡ l.fn.self.purpose;
  moment : l.self.moment ≡ l.fn.self.moment;
  framer : l.self.framer ≡ l.fn.self.framer;
  came : l.self.came ≡ l.fn.self.came;
  write_faults : g.C.Sink.write_faults l.conn ≡ g.C.Sink.write_faults l.fn.conn;
  read_faults : g.C.Source.read_faults l.conn ≡ g.C.Source.read_faults l.fn.conn;
  held : g.C.Source.held l.conn ≡ g.C.Source.held l.fn.conn;
  given : g.C.Conn.given l.conn ≡ g.C.Conn.given l.fn.conn;
  address : g.C.Conn.address l.conn ≡ g.C.Conn.address l.fn.conn;
  lent : g.C.Conn.lent l.conn ≡ g.C.Conn.lent l.fn.conn;
}

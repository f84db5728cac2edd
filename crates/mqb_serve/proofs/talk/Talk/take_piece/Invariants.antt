use Rattle.std.proofs.Common.{◌+◌, ◌<◌, ◌≡◌, Ok, length, true, ℕ}
use Rattle.mqb_stream.specs.Framing.{next, wants_more}
use Rattle.mqb_serving.specs.Conversations.{Conversation}
use Rattle.mqb_serving.specs.declared.limits.TheConstants.{MAX_READ}
use Rattle.mqb_serving.specs.Steps.{Stands}
use Rattle.mqb_serving.proofs.Taken.{Takes}
use Rattle.mqb_serve.specs.Talking.{Keeps, stored_of}
use Rattle.mqb_serve.proofs.talk.Talk.take_piece.Given as goal

abbrev pub invariant-loop-rest : goal.invariant-loop-rest
invariant-loop-rest g l = record {
  takes : (c : Conversation) → Stands c l.fn.self.purpose l.fn.self.moment (stored_of l.fn.manager) l.fn.self.framer
      → Takes c l.piece l.rest (g.C.Sink.taken l.fn.conn) (g.C.Sink.taken l.conn) l.self.purpose l.self.moment (stored_of l.manager) l.self.framer;
  keeps : Keeps {T = ℕ} (g.D.Disk.view l.fn.disk) (g.D.Disk.view l.disk) l.fn.manager l.manager (Ok 0);
  wants : wants_more (next l.self.framer) ≡ true;
  few : l.self.came + length l.rest ≡ l.fn.self.came + length l.piece;
  less : l.self.came < MAX_READ;
  write_faults : g.C.Sink.write_faults l.conn ≡ g.C.Sink.write_faults l.fn.conn;
  read_faults : g.C.Source.read_faults l.conn ≡ g.C.Source.read_faults l.fn.conn;
  held : g.C.Source.held l.conn ≡ g.C.Source.held l.fn.conn;
  given : g.C.Conn.given l.conn ≡ g.C.Conn.given l.fn.conn;
  address : g.C.Conn.address l.conn ≡ g.C.Conn.address l.fn.conn;
  lent : g.C.Conn.lent l.conn ≡ g.C.Conn.lent l.fn.conn;
}

abbrev pub decreases-loop-rest : goal.decreases-loop-rest
decreases-loop-rest g l = length l.rest

use Rattle.std.specs.Prelude.{◌≡◌, ℕ}
use Rattle.mqb_net.specs.declared.tcp_conn.TcpConn.{TcpConn}
use Rattle.mqb_net.specs.declared.tcp_net.TcpNet.{TcpNet}

-- neither a read of a connection nor a write to it has failed
abbrev pub IsFaultless : TcpConn → Type 0
IsFaultless conn = (conn.ends.read_faults ≡ 0) × (conn.ends.write_faults ≡ 0)

-- how often a net over TCP gave no connection
abbrev pub faults_of : TcpNet → ℕ
faults_of net = net.faults

-- how many of its connections were lost
abbrev pub lost_by : TcpNet → ℕ
lost_by net = net.lost

-- how often it was waited for a peer and none came
abbrev pub idle_of : TcpNet → ℕ
idle_of net = net.idle

-- What is said of faults and of the ends of connections.
use Rattle.std.specs.Fmt.{decimal}
use Rattle.std.specs.Prelude.{[], ◌++◌, Err, List, Ok, Result, codes, ℕ}
use Rattle.mqb_fields.specs.declared.faults.HeadFault.{HeadFault}
use Rattle.mqb_fields.specs.declared.faults.HeadKind.{HeadKind}
use Rattle.mqb_fields.specs.declared.faults.HeadKind.TheVariants as head
use Rattle.mqb_forms.specs.declared.faults.LineKind.{LineKind}
use Rattle.mqb_forms.specs.declared.faults.LineKind.TheVariants as line
use Rattle.mqb_serving.specs.declared.faults.ConnFault.{ConnFault}
use Rattle.mqb_serving.specs.declared.faults.ConnFault.TheVariants as conn
use Rattle.mqb_serving.specs.declared.faults.PeerFault.{PeerFault}
use Rattle.mqb_serving.specs.declared.faults.PeerFault.TheVariants as peer
use Rattle.mqb_transcript.specs.Texts.{cause_text, spaced}
use Rattle.mqb_commands.specs.declared.status.Status.{Status}
use Rattle.mqb_commands.specs.declared.status.Status.TheVariants as status

unfoldable pub kind_text : HeadKind → List ℕ
kind_text head.Short = codes "short"
kind_text head.Version = codes "version"
kind_text head.Debug = codes "debug"
kind_text head.Signature = codes "signature"
kind_text head.Size = codes "size"
kind_text head.Kind = codes "kind"
kind_text head.Secured = codes "secured"
kind_text head.Name = codes "name"
kind_text head.Label = codes "label"
kind_text head.Class = codes "class"
kind_text head.Sizes = codes "sizes"

-- a header at a place of a stream, with its fault
unfoldable pub bad_text : ℕ → HeadFault → List ℕ
bad_text place fault =
    codes "bad " ++ decimal place ++ spaced (decimal fault.at) ++ spaced (kind_text fault.kind)

unfoldable pub peer_text : PeerFault → List ℕ
peer_text peer.PeerClosed = codes "closed"
peer_text (peer.Bad place fault) = bad_text place fault
peer_text (peer.Closed cause) = codes "session " ++ cause_text cause
peer_text peer.Spent = codes "spent"
peer_text peer.TooMuch = codes "toomuch"

-- how a connection ended; no text stands for one under which the disk failed or memory ran out
unfoldable pub end_text : Result (Unit {0}) ConnFault → List ℕ
end_text (Ok done) = codes "ended"
end_text (Err (conn.Peer why)) = peer_text why
end_text (Err conn.ReadFault) = codes "netfault"
end_text (Err conn.WriteFault) = codes "netfault"
end_text (Err conn.DiskFault) = []
end_text (Err conn.Memory) = []

unfoldable pub line_kind_text : LineKind → List ℕ
line_kind_text line.Byte = codes "byte"
line_kind_text line.Word = codes "word"
line_kind_text line.Count = codes "count"
line_kind_text line.Value = codes "value"

-- the fault line of a script: its first line that fails, and what is wrong with it
unfoldable pub script_fault_text : ℕ → LineKind → List ℕ
script_fault_text number kind =
    codes "fault: script " ++ decimal number ++ codes " " ++ line_kind_text kind ++ codes "\n"

-- that of a disk that is no store, with the first place where it is none
unfoldable pub bad_store_text : ℕ → List ℕ
bad_store_text at = codes "fault: badstore " ++ decimal at ++ codes "\n"

-- that of bytes that are not all packets
unfoldable pub shown_fault_text : PeerFault → List ℕ
shown_fault_text why = codes "fault: " ++ peer_text why ++ codes "\n"

-- the fault line of an end, where it has one
unfoldable pub fault_text : Status → List ℕ
fault_text status.Usage = codes "fault: usage\n"
fault_text (status.Script line kind) = script_fault_text line kind
fault_text status.TooLong = codes "fault: toolong\n"
fault_text status.TooManyLines = codes "fault: toomanylines\n"
fault_text status.ReadFault = codes "fault: readfault\n"
fault_text status.DiskFault = codes "fault: diskfault\n"
fault_text status.NetFault = codes "fault: netfault\n"
fault_text (status.BadStore at) = bad_store_text at
fault_text status.NotEmpty = codes "fault: notempty\n"
fault_text (status.Peer why) = shown_fault_text why
fault_text status.NetFull = codes "fault: netfull\n"
fault_text status.Done = []
fault_text status.WriteFault = []
fault_text status.Memory = []
fault_text status.Refused = []

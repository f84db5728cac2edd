-- The parts of a capture, as they are read.
use Rattle.mqb_capture.specs.Grammar.{Head, Piece, role_of}
use Rattle.mqb_inspect.specs.declared.grammar.CaptureHead.{CaptureHead}
use Rattle.mqb_inspect.specs.declared.grammar.PieceView.{PieceView}

abbrev pub seen_head : CaptureHead → Head
seen_head head =
    record { role = role_of head.role; own = head.own; peer = head.peer; window = head.window }

abbrev pub seen_piece : PieceView → Piece
seen_piece piece = record { way = piece.way; bytes = piece.bytes.now }

-- What is said of the words that there are, and of the version.
use Rattle.std.specs.Prelude.{List, ℕ}
use Rattle.mqb_commands.specs.declared.helping.TheConstants.{HELP, VERSION}

unfoldable pub help_text : List ℕ
help_text = HELP.now

unfoldable pub version_text : List ℕ
version_text = VERSION.now

-- What a held register shows of the words it took.
use Rattle.std.specs.Prelude.{Ok, Err, Result}
use Rattle.words.specs.declared.faults.SchemaFault.{SchemaFault}
use Rattle.registers.specs.declared.held.Held.{Held}
use Rattle.register_files.specs.Register.{File}
use Rattle.registers.specs.Meaning.{file}

abbrev pub held_file : Held → File
held_file h = file h.words.now

-- the file held after one was offered
abbrev pub kept : File → Result File SchemaFault → File
kept f (Ok g) = g
kept f (Err e) = f

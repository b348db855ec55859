-- What is wrong with a line whose word adds nothing to a byte string.
use Rattle.script.specs.declared.bytes.BytesFault.{BytesFault}
use Rattle.script.specs.declared.bytes.BytesFault.TheVariants.{Malformed, TooLong as Long, NoMemory as Wanting}
use Rattle.jowlspur.specs.declared.wrong.Wrong.{Wrong}
use Rattle.jowlspur.specs.declared.wrong.Wrong.TheVariants.{Bytes, TooLong, NoMemory}

abbrev pub wrong_of : BytesFault → Wrong
wrong_of Malformed = Bytes
wrong_of Long = TooLong
wrong_of Wanting = NoMemory

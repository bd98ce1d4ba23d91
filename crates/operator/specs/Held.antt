-- Private: the bytes in a memory sink.
use Rattle.std.specs.Prelude.{ℕ, List}
use Rattle.operator.specs.Prelude.{MemorySink}

abbrev pub sink_text : MemorySink → List ℕ
sink_text sink = sink.bytes.items

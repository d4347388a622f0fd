-- What contracts say of the awaiting slots that bytes begin with.
use Rattle.std.specs.Prelude.{List}
use Rattle.model.specs.Reads.{Pending}
use Rattle.image.specs.Area.{pending_of}
use Rattle.awaiting.specs.declared.Awaiting.{Awaiting}

-- All of them, in their order.
abbrev pub all_of : Awaiting → List Pending
all_of a = pending_of a.count a.bytes.now

-- What frame memory means as a backend. Assumes nothing.
use Rattle.region.specs.Grounds.{Ground}
use Rattle.frames.specs.Frames.{frames}
use Rattle.frames.specs.declared.memory.FrameMemory.{FrameMemory}

-- it answers as a collection of its present frames; `lawful`, a ghost field, says that it keeps its meaning
abbrev pub frames_ground : FrameMemory → Ground
frames_ground m = record { host = m.host_len; regions = frames m.base.0 m.entries.now }

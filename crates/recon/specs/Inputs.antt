-- The slice that the inputs of its construction stand for.
use Rattle.recon.specs.References.{pictures_of}
use Rattle.recon.specs.Slice.{Slice, slice_of}
use Rattle.recon.specs.declared.inputs.Inputs.{Inputs}

abbrev pub slice_in : Inputs → Slice
slice_in inputs = slice_of inputs.info.now inputs.header.now inputs.list.now.entries (pictures_of inputs.refs.now) inputs.size inputs.macroblocks.now

mod Oks
mod KeptSoFar
mod Nodes
mod Attrs

mod Oks
mod Points
mod SeenNames

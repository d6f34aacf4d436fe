mod Counting
mod HeardSoFar

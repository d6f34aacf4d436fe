mod Printed
mod Taken
mod ToldTransfers
mod WholeLines

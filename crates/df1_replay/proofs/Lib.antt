mod Headline
mod Taken
mod Written

mod Lasts
mod Firsts
mod Chained
mod Whys

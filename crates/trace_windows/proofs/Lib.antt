mod Lines
mod Moving
mod Telling
mod Sites
